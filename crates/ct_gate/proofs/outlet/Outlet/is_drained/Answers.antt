use Rattle.std.proofs.Common.{◌≡◌, List, length, All, sym, ap, ◌∙◌, subst, eq-eqb}
use mathlib.Core.List.{IsPrefix}
use Rattle.rtrb.specs.Ring.{sent, received, known_items}
use Rattle.ct_codec.specs.declared.item.Item.{Item}
use Rattle.ct_gate.specs.Ends.{from_front}
use Rattle.ct_gate.proofs.Draining.{all_taken, none_known, is_zero, still_seen}
use Rattle.ct_gate.proofs.outlet.Outlet.is_drained.Goals as goal

pub returns-clause-answer : goal.returns-clause-answer
returns-clause-answer c =
    let o = c.slots_beside.new.self in
    let p = c.slots_beside.new.producer in
    let s = c.slots_beside.ensures in
    let n = c.self.inside.number in
    let fronts = subst (λ (l : List Item). All (λ (t : Item). t.front ≡ c.intake.inside.number) l) (sym s.producer.1) c.intake.invariant.5 in
    let same = ap (λ v. v.number) c.self.view_is ∙ c.requires.1 ∙ sym (ap (λ v. v.number) c.intake.view_is) in
    let before = ap (from_front n) s.looked.1 ∙ ap (λ v. v.received) c.self.view_is in
    let accepted = s.producer.1 ∙ ap (λ v. v.accepted) c.intake.view_is in (
      (λ yes. let none : length (known_items o) ≡ 0 = sym s.value ∙ is_zero c.slots_beside.result yes in sym before
          ∙ all_taken n c.intake.inside.number (received o) (known_items o) (sent p) s.fifo fronts same none ∙ accepted),
      (λ all. let none = none_known n (received o) (known_items o) (sent p) s.fifo (before ∙ all ∙ sym accepted)
          in eq-eqb c.slots_beside.result 0 (s.value ∙ none)),
    )

pub returns-clause-in_sight : goal.returns-clause-in_sight
returns-clause-in_sight c =
    let n = c.self.inside.number in
    subst (λ (l : List Item). IsPrefix l (from_front n (known_items c.slots_beside.new.self))) (ap (λ v. v.in_sight) c.self.view_is)
    (still_seen n (known_items c.self.inside.consumer) (known_items c.slots_beside.new.self) c.slots_beside.ensures.looked.2)
