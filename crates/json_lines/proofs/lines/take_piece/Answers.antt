use Rattle.std.proofs.Common.{refl, rules}
use Rattle.json_lines.proofs.KeptLines.{no_piece}
use Rattle.json_lines.proofs.lines.take_piece.Goals as goal

pub returns-then-eq : goal.returns-then-eq
returns-then-eq g c = no_piece c.args.most _ _ c.args.line.now.items _ _ c.requires refl c.fill_buf.follows.holds-at-none.0 (search rules)

pub returns-else-eq : goal.returns-else-eq
returns-else-eq g c = no_piece c.args.most _ _ c.args.line.now.items _ _ c.requires refl c.fill_buf.follows.holds-at-none.0 (search rules)

pub returns-in_err-end : goal.returns-in_err-end
returns-in_err-end g c =
    no_piece c.args.most _ _ c.args.line.now.items _ _ c.requires c.in_err-end.ensures.same c.fill_buf.follows.holds-at-none.0 (search rules)
