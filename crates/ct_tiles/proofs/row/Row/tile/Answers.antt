use Rattle.std.proofs.Common.{◌≡◌, ◌⊎◌, ◌*◌, ◌-◌, ◌<◌, length, arith, inl, inr}
use Rattle.ct_tiles.proofs.Steps.{cut}
use Rattle.ct_tiles.proofs.row.Row.tile.Goals as goal
use Rattle.ct_tiles.proofs.row.Row.tile.Goals.{then-left-lt256, else-left-lt256}

pub returns : goal.returns
returns c =
    let Y = c.args.self.now.hashes.items in
    let start = 256 * c.args.place in
    let inside : start < length Y = omega (arith, c.if-start-len.false, c.len.ensures) in
    let width : (c.if-left-lt256.width ≡ 256) ⊎ ((c.if-left-lt256.width ≡ length Y - start) × (c.if-left-lt256.width < 256)) =
    elim c.if-left-lt256.branch [
      | then-left-lt256 w ↦ inr (omega (arith, w.width-is, c.len-2.ensures), omega (arith, w.width-is, w.if-left-lt256.true))
      | else-left-lt256 w ↦ inl (omega (arith, w.width-is))
    ] in
    cut start c.if-left-lt256.width c.deref.result.now Y c.deref.ensures.value inside width
