use Rattle.ct_subtrees.specs.Explained.IsHalf.{left, right, both}
use Rattle.ct_subtrees.proofs.explained.half_of.Goals as goal

pub returns-then-place-middle-clause-half : goal.returns-then-place-middle-clause-half
returns-then-place-middle-clause-half c = left c.if-place-middle.true

pub returns-then-place-middle-2-clause-half : goal.returns-then-place-middle-2-clause-half
returns-then-place-middle-2-clause-half c = right c.if-place-middle-2.true

pub returns-clause-half : goal.returns-clause-half
returns-clause-half c = both c.if-place-middle-2.false c.if-place-middle.false
