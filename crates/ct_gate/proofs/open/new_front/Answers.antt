use Rattle.std.proofs.Common.{◌≡◌, ◌-◌, false, [], List, length, sym, ap, ap₂, ◌∙◌, arith}
use Rattle.rtrb.specs.Ring.{sent}
use Rattle.ct_codec.specs.declared.item.Item.{Item}
use Rattle.ct_gate.specs.Opening.{new_fronts}
use Rattle.ct_gate.specs.Seats.{view_of_front}
use Rattle.ct_codec.specs.Items.{tickets_of}
use Rattle.ct_gate.proofs.Opening.{deals_as, rest_left, first_given}
use Rattle.ct_gate.proofs.open.new_front.Goals as goal

pub split_seat-place-requires : goal.split_seat-place-requires
split_seat-place-requires c =
    let r = c.requires in
    let table = r.table.0 ∙ ap (λ t. t.shared.table_id) (sym c.deref.ensures) in
    let one : c.deref.result.now.shared.table_id.words ≡ 1 = ap (λ z. z.words) (sym table) ∙ r.table.1 in (
      table,
      omega arith,
      deals_as c.deref.result.now.shared.key c.args.seat.now.id c.args.seat.now.me.0
          (new_fronts c.args.number (c.args.fronts - c.args.number)) (ap (λ m. m.0) r.seat.1),
    )

pub returns-in_err-producer-clause-seat : goal.returns-in_err-producer-clause-seat
returns-in_err-producer-clause-seat c = let s =
    c.split_seat-place.ensures in (s.0, s.2 ∙ rest_left c.args.number c.args.fronts c.args.seat.now.me c.requires.seat.0 c.requires.seat.1)

pub returns-in_err-table-clause-seat : goal.returns-in_err-table-clause-seat
returns-in_err-table-clause-seat c = let s =
    c.split_seat-place.ensures in (s.0, s.2 ∙ rest_left c.args.number c.args.fronts c.args.seat.now.me c.requires.seat.0 c.requires.seat.1)

pub returns-clause-seat : goal.returns-clause-seat
returns-clause-seat c = let s = c.split_seat-place.ensures
    in (s.0, s.2 ∙ rest_left c.args.number c.args.fronts c.args.seat.now.me c.requires.seat.0 c.requires.seat.1)

pub invariant_of-intake : goal.invariant_of-intake
invariant_of-intake c =
    let s = c.split_seat-place.ensures in
    let p = c.in_ok-producer.ensures.producer in
    let cloned = c.in_ok-table.ensures in
    let me = s.4 ∙ first_given c.args.number c.args.fronts c.args.seat.now.me c.requires.seat.0 c.requires.seat.1 in
    let nothing : sent c.in_ok-producer.producer ≡ [] = p.0 in (
      s.3 ∙ c.requires.table.0 ∙ ap (λ t. t.shared.table_id) (sym cloned),
      ap (λ z. z.words) s.3 ∙ c.requires.table.1,
      me ∙ ap₂ (λ (l : List Item) k. (view_of_front c.args.number (tickets_of l) false k, [])) (sym nothing) (sym (ap (λ m. m.0.refused) me)),
      ap length (sym nothing),
      omega arith,
      (λ k d lt. absurd (omega (arith, ap length nothing))),
      omega (arith, p.1),
      omega (arith, p.2),
    )
