use Rattle.std.proofs.Common.{Bool, List, sym, subst}
use Rattle.ct_lines.specs.Plans.{IsPlanOf, LineTaken}
use Rattle.ct_lines.specs.Tasks.{Step}
use Rattle.ct_lines.specs.Steps.{AreStepsOf, AreWhole}
use Rattle.ct_lines.specs.declared.plan.Plan.{Plan}
use Rattle.ct_lines.proofs.ReadingLemmas.{input_read, line_read, nothing_read}
use Rattle.ct_lines.proofs.plan_reading.give_out.Goals as goal

pub loop-turn-init : goal.loop-turn-init
loop-turn-init g c = nothing_read c.args.fronts c.in_ok-plan.plan (g.R.Read.remaining c.args.input.now) c.in_ok-plan.ensures

pub loop-turn-preserved : goal.loop-turn-preserved
loop-turn-preserved g c =
    let taken = subst (λ (b : Bool). LineTaken c.args.fronts c.loop-turn.plan c.take_line.new.plan (g.R.Read.remaining c.loop-turn.input)
    (g.R.Read.remaining c.take_line.new.input) b) c.if-done.false c.in_ok-done.ensures.taken in
    line_read c.args.fronts c.loop-turn.plan c.take_line.new.plan (g.R.Read.remaining c.args.input.now) (g.R.Read.remaining c.loop-turn.input)
    (g.R.Read.remaining c.take_line.new.input) taken c.loop-turn.invariant

pub returns-then-done-clause-plan : goal.returns-then-done-clause-plan
returns-then-done-clause-plan g c =
    let taken = subst (λ (b : Bool). LineTaken c.args.fronts c.loop-turn.plan c.take_line.new.plan (g.R.Read.remaining c.loop-turn.input)
    (g.R.Read.remaining c.take_line.new.input) b) c.if-done.true c.in_ok-done.ensures.taken in
    subst (λ (p : Plan). (ss : List Step) × AreStepsOf c.args.fronts (g.R.Read.remaining c.args.input.now) ss × IsPlanOf c.args.fronts p ss × AreWhole ss) (sym taken.1)
    (input_read c.args.fronts c.loop-turn.plan (g.R.Read.remaining c.args.input.now) (g.R.Read.remaining c.loop-turn.input) taken.0 c.loop-turn.invariant)
