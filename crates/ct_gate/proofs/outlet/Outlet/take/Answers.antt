use Rattle.std.proofs.Common.{◌≡◌, ◌∷◌, [], List, true≢false, sym, ap, ◌∙◌, subst}
use Rattle.std.specs.Prelude.{Option, MatchOption}
use mathlib.Core.List.{IsPrefix}
use Rattle.rtrb.specs.Ring.{known_items}
use Rattle.ct_codec.specs.declared.item.Item.{Item}
use Rattle.ct_gate.specs.Ends.{from_front}
use Rattle.ct_gate.proofs.Draining.{taken_first, none_before}
use Rattle.ct_gate.proofs.outlet.Outlet.take.Goals.{in-Ok, in-Err}
use Rattle.ct_gate.proofs.outlet.Outlet.take.Goals as goal

pub returns-clause-in_sight : goal.returns-clause-in_sight
returns-clause-in_sight c =
    let n = c.self.inside.number in
    let known = known_items c.self.inside.consumer in
    let left = known_items c.pop.new.self in
    let was = ap (λ v. v.in_sight) c.self.view_is in
    let told : Option Item → Type 0 = λ r. MatchOption r ((c.args.self.now.in_sight ≡ []) × (from_front n left ≡ []))
    (λ i. IsPrefix c.args.self.now.in_sight (i ∷ from_front n left)) in
    elim c.match-pop.branch [
      | in-Ok w ↦ subst told (sym w.result-is) (subst (λ (l : List Item). IsPrefix l (w.from_front.result ∷ from_front n left)) was
          (taken_first n known left w.in-Ok.item w.from_front.result w.in-Ok.ensures.ok.1 w.from_front.ensures))
      | in-Err w ↦ subst told (sym w.result-is) (
        sym was ∙ ap (from_front n) (none_before known (λ lt. absurd (true≢false (sym (w.in-Err.ensures.succeeds lt))))),
        ap (from_front n)
            w.in-Err.ensures.empty.1,
      )
    ]
