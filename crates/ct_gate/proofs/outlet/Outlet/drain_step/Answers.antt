use Rattle.std.proofs.Common.{◌≡◌, ◌++◌, List, length, All, sym, ap, ◌∙◌, subst}
use Rattle.rtrb.specs.Ring.{sent, received, known_items}
use Rattle.ct_codec.specs.declared.item.Item.{Item}
use Rattle.ct_gate.specs.Ends.{from_front}
use Rattle.ct_gate.proofs.Draining.{in_order, all_taken, popped}
use Rattle.ct_gate.proofs.outlet.Outlet.drain_step.Goals as goal

pub returns-then-slots_beside-eq0-clause-next : goal.returns-then-slots_beside-eq0-clause-next
returns-then-slots_beside-eq0-clause-next c = ap (from_front c.self.inside.number) c.slots_beside.ensures.looked.1 ∙ ap (λ v. v.received) c.self.view_is

pub returns-then-slots_beside-eq0-clause-drained : goal.returns-then-slots_beside-eq0-clause-drained
returns-then-slots_beside-eq0-clause-drained c =
    let o = c.slots_beside.new.self in
    let p = c.slots_beside.new.producer in
    let s = c.slots_beside.ensures in
    let fronts = subst (λ (l : List Item). All (λ (t : Item). t.front ≡ c.intake.inside.number) l) (sym s.producer.1) c.intake.invariant.5 in
    let same = ap (λ v. v.number) c.self.view_is ∙ c.requires.1 ∙ sym (ap (λ v. v.number) c.intake.view_is) in
    let none : length (known_items o) ≡ 0 = sym s.value ∙ c.if-slots_beside-eq0.true in
    all_taken c.self.inside.number c.intake.inside.number (received o) (known_items o) (sent p) s.fifo fronts same none ∙ s.producer.1
    ∙ ap (λ v. v.accepted) c.intake.view_is

pub returns-then-slots_beside-eq0-clause-begins : goal.returns-then-slots_beside-eq0-clause-begins
returns-then-slots_beside-eq0-clause-begins c =
    let o = c.slots_beside.new.self in
    let p = c.slots_beside.new.producer in
    let s = c.slots_beside.ensures in
    let fronts = subst (λ (l : List Item). All (λ (t : Item). t.front ≡ c.intake.inside.number) l) (sym s.producer.1) c.intake.invariant.5 in
    let same = ap (λ v. v.number) c.self.view_is ∙ c.requires.1 ∙ sym (ap (λ v. v.number) c.intake.view_is) in (
      from_front c.self.inside.number (known_items o),
      in_order c.self.inside.number c.intake.inside.number (received o) (known_items o) (sent p) s.fifo
          fronts same ∙ s.producer.1 ∙ ap (λ v. v.accepted) c.intake.view_is,
    )

pub returns-clause-begins : goal.returns-clause-begins
returns-clause-begins c =
    let o = c.slots_beside.new.self in
    let p = c.slots_beside.new.producer in
    let s = c.slots_beside.ensures in
    let after = c.pop_known-item.new.self in
    let popped_one = c.pop_known-item.ensures.received in
    let fronts = subst (λ (l : List Item). All (λ (t : Item). t.front ≡ c.intake.inside.number) l) (sym s.producer.1) c.intake.invariant.5 in
    let same = ap (λ v. v.number) c.self.view_is ∙ c.requires.1 ∙ sym (ap (λ v. v.number) c.intake.view_is) in
    let fifo : received after ++ known_items after ≡ sent p =
    popped (received o) (received after) (known_items o) (known_items after) (sent p) c.pop_known-item.result popped_one.0 popped_one.1 s.fifo in (
      from_front c.self.inside.number (known_items after),
      in_order c.self.inside.number c.intake.inside.number (received after) (known_items after) (sent p)
          fifo fronts same ∙ s.producer.1 ∙ ap (λ v. v.accepted) c.intake.view_is,
    )
