use Rattle.std.proofs.Common.{◌≡◌, List, length, sym, ap, subst, ◌∙◌}
use Rattle.std.specs.Prelude.{All}
use Rattle.std.specs.Vec.{with_items}
use Rattle.std.proofs.lemmas.List.{with_items_is}
use Rattle.std.proofs.lemmas.Option.{same_Some}
use Rattle.ct_core.specs.Settlement.{IsFinal}
use Rattle.ct_core.specs.Core.{Extends}
use Rattle.ct_house.specs.House.{HouseName, FrontView, IsOfHouse, IsAllSettled, accepted_lists}
use Rattle.ct_workers.proofs.ClosingLemmas.{closing_fault, ends_at}
use Rattle.ct_workers.proofs.closing.close_ends.Goals as goal

pub finish-requires-clause-of_house : goal.finish-requires-clause-of_house
finish-requires-clause-of_house g c =
    let ends = c.settle_and_publish.new.ends in
    let before : ends ≡ c.args.ends.items = c.settle_and_publish.ensures.ends ∙ c.deref_mut.ensures.value in
    let same : (with_items c.args.ends ends).items ≡ ends = with_items_is c.args.ends ends (ap length before ∙ sym c.args.ends.ok.0) in
    subst (λ (l : List FrontView). All (IsOfHouse c.settle_and_publish.new.sequencer.house) l) (sym (same ∙ before))
    (subst (λ (h : HouseName). All (IsOfHouse h) c.args.ends.items) (sym c.in-Ok.ensures.ready.house) c.requires.of_house)

pub finish-requires-clause-settled : goal.finish-requires-clause-settled
finish-requires-clause-settled g c =
    let ends = c.settle_and_publish.new.ends in
    let before : ends ≡ c.args.ends.items = c.settle_and_publish.ensures.ends ∙ c.deref_mut.ensures.value in
    let same : (with_items c.args.ends ends).items ≡ ends = with_items_is c.args.ends ends (ap length before ∙ sym c.args.ends.ok.0) in
    subst (λ (l : List FrontView). IsAllSettled c.settle_and_publish.new.sequencer l) (c.deref_mut.ensures.value ∙ sym before ∙ sym same)
    c.in-Ok.ensures.ready.settled

pub returns-in-Ok-clause-closes : goal.returns-in-Ok-clause-closes
returns-in-Ok-clause-closes g c =
    let ends = c.settle_and_publish.new.ends in
    let before : ends ≡ c.args.ends.items = c.settle_and_publish.ensures.ends ∙ c.deref_mut.ensures.value in
    let same : (with_items c.args.ends ends).items ≡ ends = with_items_is c.args.ends ends (ap length before ∙ sym c.args.ends.ok.0) in
    record {
      final = subst (λ (l : List FrontView). IsFinal (accepted_lists l) c.finish.result.accepted c.finish.result.log) (same ∙ before) c.finish.ensures.closes;
      counted = λ n is. same_Some c.finish.result.accepted n (sym c.finish.ensures.same.1 ∙ c.in-Ok.ensures.counted n is);
      in_time = c.in-Ok.ensures.ready.in_time;
      ends = ends_at _ _ _ _ _ _ c.in-Ok.ensures.ready c.in-Ok.ensures.kept c.finish.ensures.same.0;
      seen = subst (λ (l : List FrontView). All (λ (f : FrontView). Extends f.sight.seen c.finish.result.log) l) (same ∙ before) c.finish.ensures.seen;
    }

pub returns-in-Err-clause-faults : goal.returns-in-Err-clause-faults
returns-in-Err-clause-faults g c = closing_fault c.args.sequencer c.args.now c.in-Err.refusal c.from.result c.in-Err.ensures.refused c.from.ensures
