use Rattle.std.proofs.Common.{◌≡◌, ℕ, Option, None, Some, [], false, true≢false, is_some, refl, sym, ap, ◌∙◌, arith}
use Rattle.ct_gate.specs.Seats.{view_of_shutter}
use Rattle.ct_gate.proofs.Steps.{shuts_as}
use Rattle.ct_gate.proofs.shutter.Shutter.shut.Goals as goal

no_count : (o : Option ℕ) → is_some o ≡ false → o ≡ None
no_count None e = refl
no_count (Some n) e = absurd (true≢false e)

pub fetch_or-count-requires : goal.fetch_or-count-requires
fetch_or-count-requires c =
    let i = c.self.invariant in
    let none_yet : c.self.inside.accepted ≡ None = no_count c.self.inside.accepted (sym c.is_some.ensures ∙ c.if-is_some.false) in
    let table = i.0 ∙ ap (λ t. t.shared.table_id) (sym c.deref.ensures) in
    let one : c.deref.result.now.shared.table_id.words ≡ 1 = ap (λ z. z.words) (sym table) ∙ i.1 in (
      table,
      omega arith,
      shuts_as c.deref.result.now.shared.key c.deref.result.now.shared.table_id.slots c.self.inside.seat.id c.self.inside.seat.me
          (i.3 ∙ ap (λ k. (view_of_shutter k, [])) none_yet),
    )
