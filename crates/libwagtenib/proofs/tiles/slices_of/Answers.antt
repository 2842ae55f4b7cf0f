use Rattle.std.specs.Borrow.{Bor}
use Rattle.std.proofs.Common.{ℕ, List}
use Rattle.libwagtenib.specs.Tiles.{pieces}
use Rattle.libwagtenib.proofs.Made.{pieces_more, pieces_all}
use Rattle.libwagtenib.proofs.tiles.slices_of.Goals as goal

abbrev bytes_of : Bor (List ℕ) → List ℕ
bytes_of piece = piece.now

pub loop-length-preserved : goal.loop-length-preserved
loop-length-preserved c =
    let l = c.loop-length in
    pieces_more bytes_of (pieces c.args.lengths.now c.args.bytes.now) l.contents.items c.push.new.self.items c.first_of.result.0 c.in-Some.length.now l.lengths.now
    c.in-Some.more.now l.bytes.now c.first_of.result.1.now l.invariant c.in-Some.ensures.cases.0
    c.first_of.ensures.first c.first_of.ensures.rest c.in_ok-push.ensures.items

pub returns : goal.returns
returns c =
    let l = c.loop-length in
    pieces_all bytes_of (pieces c.args.lengths.now c.args.bytes.now) l.contents.items l.lengths.now l.bytes.now l.invariant c.in_default.ensures.cases
