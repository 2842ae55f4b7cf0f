use Rattle.ct_step.proofs.StepObjects.{all_named, one_more_named, one_of_named}
use Rattle.ct_step.proofs.stepping.are_tiles.Goals as goal

pub loop-object-preserved : goal.loop-object-preserved
loop-object-preserved c =
    one_more_named c.args.objects.now c.loop-object.object-index _ c.loop-object-test.true c.loop-object.invariant
    (rw c.if-not-branch.false at c.in_ok-is_tile_name.ensures)

pub returns : goal.returns
returns c = all_named c.args.objects.now c.loop-object.object-index c.loop-object-test.false c.loop-object.invariant

pub returns-then-not-branch : goal.returns-then-not-branch
returns-then-not-branch c = λ all.
    (rw c.if-not-branch.true at c.in_ok-is_tile_name.ensures)
    (one_of_named c.args.objects.now c.loop-object.object-index _ c.loop-object-test.true all)
