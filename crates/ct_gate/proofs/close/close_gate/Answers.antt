use Rattle.std.proofs.Common.{◌≡◌, ◌++◌, ◌∷◌, [], List, map, length, sym, ap, ◌∙◌, arith, append_assoc, append-nil}
use Rattle.std.specs.Vec.Iter.{into_iter_items}
use Rattle.std.specs.Slots.{slots_len}
use Rattle.std.proofs.lemmas.List.{length-map, nil_from_length}
use Rattle.std.proofs.lemmas.List.FromFn.{length-range_with_len}
use Rattle.ct_gate.specs.Seats.{FrontTickets}
use Rattle.ct_gate.specs.Closing.{front_tickets}
use Rattle.ct_gate.proofs.Closing.{all_rest, ends, all_tickets}
use Rattle.ct_gate.proofs.close.close_gate.Goals as goal

pub loop-intake-preserved : goal.loop-intake-preserved
loop-intake-preserved g c =
    let i = c.loop-intake.invariant in
    let s = c.give_up.ensures in
    let n = c.in-Some.ensures.steps in
    let left = into_iter_items c.next.new.self in
    let old = c.loop-intake.seat.me.0.fronts in (
      tt,
      tt,
      s.same.0 ∙ i.2,
      ap (λ z. z.words) s.same.0 ∙ i.3,
      s.same.1 ∙ i.4,
      s.same.2 ∙ i.5,
      s.same.3 ∙ i.6,
      (λ k d lt. all_rest (λ i. i.gate ≡ c.loop-intake.seat.table_id) c.in-Some.intake left (into_iter_items c.loop-intake.intake-iterator) n.0 i.7 k d lt
          ∙ sym s.same.0),
      ap (λ (l : List FrontTickets). l ++ map front_tickets left) s.fronts
          ∙ append_assoc old (front_tickets c.in-Some.intake ∷ []) (map front_tickets left) ∙ ap (λ l. old ++ map front_tickets l) (sym n.0) ∙ i.8,
    )

pub free-requires : goal.free-requires
free-requires g c =
    let s = c.shutter.invariant in
    let none : slots_len c.close_with-closed.result.slots ≡ 0 =
    c.close_with-closed.ensures.counts.1 ∙ ap (λ t. t.shared.table_id.slots) c.sole_owner-table.ensures ∙ ap (λ z. z.slots) (sym s.0) ∙ s.2 in
    λ k lt. absurd (omega arith)

pub returns-clause-tickets : goal.returns-clause-tickets
returns-clause-tickets g c =
    let v = c.close_with-closed.ensures.values.2 in
    let i = c.loop-intake.invariant in
    let n = c.in-None.ensures.steps in
    let it = c.loop-intake.intake-iterator in
    let none = nil_from_length (into_iter_items it) (sym it.rest.ok.0 ∙ n.0) in
    let fs = c.loop-intake.seat.me.0.fronts in
    let whole = sym (append-nil fs) ∙ ap (λ l. fs ++ map front_tickets l) (sym none) ∙ i.8 in
    let key = c.sole_owner-table.result.shared.key in
    let numbers = sym (length-map c.args.intakes.items (λ i. i.number)) ∙ ap length c.requires.fronts ∙ length-range_with_len 0 c.args.shutter.fronts in
    let named = ap (λ t. t.shared.key) c.sole_owner-table.ensures ∙ ap (λ v. v.fronts) c.shutter.view_is in
    let all : length fs ≡ key = ap length whole ∙ length-map c.args.intakes.items front_tickets ∙ numbers ∙ sym named in
    let counted = c.unwrap.ensures in
    all_tickets fs c.args.intakes.items c.unwrap.result whole
    (ends key c.unwrap.result v.0 c.loop-intake.seat.id c.loop-intake.seat.me.0 v.1 all i.5 (i.6 ∙ counted))
