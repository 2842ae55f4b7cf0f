use Rattle.ct_lines.proofs.ReadingLemmas.{HasRead}
use Rattle.ct_lines.proofs.plan_reading.give_out.Given as goal

abbrev pub invariant-loop-turn : goal.invariant-loop-turn
invariant-loop-turn g l = HasRead l.fronts l.plan (g.R.Read.remaining l.fn.input) (g.R.Read.remaining l.input)
