use Rattle.std.proofs.Common.{List, [], ◌∷◌, ◌++◌, refl, sym, subst, ◌∙◌}
use Rattle.std.proofs.lemmas.List.{map-append}
use Rattle.std.specs.List.{AllZip}
use Rattle.std.specs.Vec.Iter.{into_iter_items}
use Rattle.ct_core.specs.Settlement.{Log}
use Rattle.ct_house.specs.House.{FrontView, HouseName, IsOfHouse}
use Rattle.ct_workers.specs.Parties.{fronts_of}
use Rattle.ct_workers.specs.Shifts.{IsSuccessor, Succeeds}
use Rattle.ct_workers.specs.declared.party.FrontParty.{FrontParty}
use Rattle.ct_lines.proofs.PlanLemmas.{all_zip_more}
use Rattle.ct_workers.proofs.TurnLemmas.{cut_end, cut_here, cut_on}
use Rattle.ct_workers.proofs.ShiftLemmas.{Going, going_all, going_more, going_none, next_number, next_of_house}
use Rattle.ct_workers.proofs.shifting.all_go_on.Goals as goal

pub loop-party-init : goal.loop-party-init
loop-party-init g c = (
  tt,
  tt,
  c.into_iter-party-iterator.ensures.into_iter_gives.0,
  going_none c.args.sequencer.now c.args.now,
  subst (λ (l : List FrontParty). AllZip (Succeeds c.args.sequencer.now.core.published) [] l) (sym c.new-successors.ensures.items) tt,
  refl,
)

pub go_on-requires-clause-of_house : goal.go_on-requires-clause-of_house
go_on-requires-clause-of_house g c κs within =
    let (t, u, split, going, zip, ends) = c.loop-party.invariant in
    let here = cut_here c.args.parties.items c.loop-party.yielded (into_iter_items c.loop-party.party-iterator) c.in-Some.party
    (into_iter_items c.next.new.self) split c.in-Some.ensures.steps.0 in
    subst (λ (h : HouseName). IsOfHouse h c.in-Some.party.front) (sym going.more.1.house)
    (next_of_house c.args.sequencer.now c.args.parties.items c.loop-party.yielded c.in-Some.party (into_iter_items c.next.new.self) c.requires.fronts here)

pub loop-party-preserved : goal.loop-party-preserved
loop-party-preserved g c =
    let (t, u, split, going, zip, ends) = c.loop-party.invariant in
    let all = c.args.parties.items in
    let done = c.loop-party.yielded in
    let left = into_iter_items c.loop-party.party-iterator in
    let rest = into_iter_items c.next.new.self in
    let p = c.in-Some.party in
    let here = cut_here all done left p rest split c.in-Some.ensures.steps.0 in
    let old = c.args.sequencer.now in
    let on = c.in_ok-front.ensures in
    let next : FrontParty = record { front = c.in_ok-front.front; replies = p.replies } in
    let succeeds : Succeeds old.core.published p next =
    (subst (λ (l : Log). IsSuccessor l p.front next.front) going.more.1.core.published on.successor, refl) in (
      tt,
      tt,
      cut_on all done left p rest split c.in-Some.ensures.steps.0,
      subst (λ (l : List FrontView). Going old c.go_on.new.sequencer l c.args.now) (sym (map-append (λ (q : FrontParty). q.front) done (p ∷ [])))
          (going_more old c.loop-party.sequencer c.go_on.new.sequencer (fronts_of done) p.front c.args.now going
          (next_number old all done p rest c.requires.fronts here)
          on.settled on.others on.drained on.in_time on.time),
      subst (λ (l : List FrontParty). AllZip (Succeeds old.core.published) (done ++ p ∷ []) l) (sym c.in_ok-keep_party.ensures.kept)
          (all_zip_more (Succeeds old.core.published) done c.loop-party.successors.items p next zip succeeds),
      on.ends ∙ ends,
    )

pub returns-clause-all : goal.returns-clause-all
returns-clause-all g c =
    let (t, u, split, going, zip, ends) = c.loop-party.invariant in
    let all = cut_end c.args.parties.items c.loop-party.yielded (into_iter_items c.loop-party.party-iterator) split
    (sym c.loop-party.party-iterator.rest.ok.0 ∙ c.in-None.ensures.steps.0) in
    (going_all c.args.sequencer.now c.loop-party.sequencer (fronts_of c.args.parties.items) c.args.now
    (subst (λ (l : List FrontParty). Going c.args.sequencer.now c.loop-party.sequencer (fronts_of l) c.args.now) all going) c.requires.fronts).0
