use Rattle.std.proofs.Common.{◌≡◌, [], false, sym, ap, ◌∙◌, arith}
use Rattle.rtrb.specs.Ring.{sent}
use Rattle.ct_gate.specs.Seats.{view_of_front}
use Rattle.ct_codec.specs.Items.{tickets_of}
use Rattle.ct_gate.proofs.Steps.{glances_as}
use Rattle.ct_gate.proofs.intake.Intake.is_shut.Goals as goal

pub load-found-requires : goal.load-found-requires
load-found-requires c =
    let i = c.self.invariant in
    let f = c.self.inside in
    let ts = tickets_of (sent f.producer) in
    let unknown : f.knows_shutdown ≡ false = c.if-not-self.true in
    let table = i.0 ∙ ap (λ t. t.shared.table_id) (sym c.deref.ensures) in
    let one : c.deref.result.now.shared.table_id.words ≡ 1 = ap (λ z. z.words) (sym table) ∙ i.1 in (
      table,
      omega arith,
      glances_as c.deref.result.now.shared.key c.deref.result.now.shared.table_id.slots f.seat.id f.seat.me f.number ts f.seat.me.0.refused
          (i.2 ∙ ap (λ k. (view_of_front f.number ts k f.seat.me.0.refused, [])) unknown),
    )
