use Rattle.json_lines.proofs.KeptLines.{TakenSoFar}
use Rattle.json_lines.proofs.lines.take_line.Given as goal

abbrev pub invariant-loop-turn : goal.invariant-loop-turn
invariant-loop-turn g l = TakenSoFar l.most (g.R.Read.remaining l.fn.input) (g.R.Read.remaining l.input) l.line.items
