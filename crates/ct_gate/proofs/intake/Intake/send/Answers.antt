use Rattle.std.proofs.Common.{◌≡◌, ◌<◌, ◌^◌, [], length, false, sym, ap, ◌∙◌, arith}
use Rattle.std.proofs.lemmas.List.{length-map}
use Rattle.rtrb.specs.Ring.{sent}
use Rattle.ct_codec.specs.declared.item.Item.{Item}
use Rattle.ct_gate.specs.Seats.{view_of_front}
use Rattle.ct_codec.specs.Items.{tickets_of}
use Rattle.ct_gate.proofs.Steps.{draws_as}
use Rattle.ct_gate.proofs.intake.Intake.send.Goals as goal

pub fetch_add-ticket-requires : goal.fetch_add-ticket-requires
fetch_add-ticket-requires c =
    let i = c.self-2.invariant in
    let f = c.self-2.inside in
    let ts = tickets_of (sent f.producer) in
    let kept = c.has_room.ensures.same in
    let unknown : f.knows_shutdown ≡ false = ap (λ v. v.knows_shutdown) c.self-2.view_is ∙ kept.2
    ∙ sym c.is_shut.ensures.knows_shutdown.0 ∙ c.if-is_shut.false in
    let sent_now = ap (λ v. length v.accepted) c.self-2.view_is in
    let sent_then = ap (λ v. length v.accepted) c.self.view_is in
    let few : length ts < 2 ^ 32 = omega (arith, length-map (sent f.producer) (λ (t : Item). t.ticket), sent_now, ap length kept.1, sent_then) in
    let table = i.0 ∙ ap (λ t. t.shared.table_id) (sym c.deref.ensures) in
    let one : c.deref.result.now.shared.table_id.words ≡ 1 = ap (λ z. z.words) (sym table) ∙ i.1 in (
      table,
      omega arith,
      draws_as c.deref.result.now.shared.key c.deref.result.now.shared.table_id.slots f.seat.id f.seat.me f.number ts f.seat.me.0.refused
          (i.2 ∙ ap (λ k. (view_of_front f.number ts k f.seat.me.0.refused, [])) unknown) few,
    )
