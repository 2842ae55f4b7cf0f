use Rattle.std.proofs.Common.{◌≡◌, List, length, refl, sym, ap, subst, ◌∙◌, All}
use Rattle.std.specs.Vec.{with_items}
use Rattle.std.proofs.lemmas.List.{with_items_is}
use Rattle.ct_house.specs.House.{HouseState, FrontView, IsOfHouse, IsAllSettled}
use Rattle.house_tests.proofs.refused_growths.closed_log.closed.Goals as goal

pub finish-requires-clause-of_house : goal.finish-requires-clause-of_house
finish-requires-clause-of_house g c =
    let ends = c.is_settled.new.ends in
    let before : ends ≡ c.args.ends.items = c.is_settled.ensures.same.1 ∙ c.deref_mut.ensures.value in
    let same : (with_items c.args.ends ends).items ≡ ends = with_items_is c.args.ends ends (ap length before ∙ sym c.args.ends.ok.0) in
    subst (λ (l : List FrontView). All (IsOfHouse c.is_settled.new.self.house) l) (sym (same ∙ before))
    (subst (λ (s : HouseState). All (IsOfHouse s.house) c.args.ends.items) (sym c.is_settled.ensures.same.0) c.requires)

pub finish-requires-clause-settled : goal.finish-requires-clause-settled
finish-requires-clause-settled g c =
    let ends = c.is_settled.new.ends in
    let before : ends ≡ c.args.ends.items = c.is_settled.ensures.same.1 ∙ c.deref_mut.ensures.value in
    let same : (with_items c.args.ends ends).items ≡ ends = with_items_is c.args.ends ends (ap length before ∙ sym c.args.ends.ok.0) in
    subst (λ (l : List FrontView). IsAllSettled c.is_settled.new.self l) (sym (same ∙ c.is_settled.ensures.same.1))
    (subst (λ (s : HouseState). IsAllSettled s c.deref_mut.result.now) (sym c.is_settled.ensures.same.0) (c.if-not-is_settled.ensures.answer.0 refl))
