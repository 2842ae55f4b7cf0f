use Rattle.std.proofs.Common.{◌≡◌, List, [], ◌∷◌, ◌++◌, map, reverse, ap, ◌∙◌, subst, arith}
use Rattle.std.proofs.lemmas.List.{nil_from_length}
use Rattle.std.proofs.lemmas.List.Elements.{All-pop, All-cons, All-same}
use Rattle.std.specs.Prelude.{Some}
use Rattle.ct_gate.specs.Ends.{IntakeView}
use Rattle.ct_core.specs.Core.{Extends}
use Rattle.ct_house.specs.Sights.{ShelfView}
use Rattle.ct_house.specs.House.{FrontView}
use Rattle.ct_house.proofs.FinishLemmas.{moved_more, done_more}
use Rattle.ct_house.proofs.sequencer.intakes_of.Goals as goal

pub loop-end-preserved : goal.loop-end-preserved
loop-end-preserved c =
    let l = c.loop-end in
    let (same, room, series, moved, still) = l.invariant in
    let (done, all, fine) = moved in
    let rest = c.pop.new.self.items in
    let x : FrontView = c.in-Some.end in
    let e : l.ends.items ≡ rest ++ x ∷ [] = c.in-Some.ensures.items in
    let intake = ap (λ (f : FrontView). f.intake) c.end.view_is in
    let is : Extends x.sight.seen c.args.shelf.now.seen =
    subst (λ (f : FrontView). Extends f.sight.seen c.args.shelf.now.seen) c.end.view_is
    (subst (λ (s : ShelfView). Extends c.end.inside.viewer.seen s.seen) still c.vouch_for.ensures.begins) in
    let left = c.in-Some.ensures.cases in
    let size = c.push_reserved.ensures.len in
    let capacity = c.push_reserved.ensures.capacity in (
      ap (λ (is : List IntakeView). map (λ (f : FrontView). f.intake) rest ++ reverse is)
          (c.push_reserved.ensures.items ∙ ap (λ (i : IntakeView). l.room.items ++ i ∷ []) intake)
          ∙ moved_more c.args.ends.items l.ends.items rest l.room.items x e same,
      omega arith,
      (All-pop (λ (f : FrontView). f.sight.series ≡ c.args.shelf.now.series) l.ends.items rest (Some x) e series).0,
      (
        x ∷ done,
        done_more c.args.ends.items l.ends.items rest done x e all,
        All-cons
            (λ (f : FrontView). Extends f.sight.seen c.args.shelf.now.seen) x done is fine,
      ),
      c.vouch_for.ensures.same ∙ still,
    )

pub returns-clause-seen : goal.returns-clause-seen
returns-clause-seen c =
    let l = c.loop-end in
    let (same, room, series, moved, still) = l.invariant in
    let (done, all, fine) = moved in
    let stored = l.ends.ok.0 in
    let size = c.in_default.ensures.cases.0 in
    let empty : l.ends.items ≡ [] = nil_from_length l.ends.items (omega arith) in
    All-same (λ (f : FrontView). Extends f.sight.seen c.args.shelf.now.seen) c.args.ends.items done
    (all ∙ ap (λ (es : List FrontView). es ++ done) empty) fine
