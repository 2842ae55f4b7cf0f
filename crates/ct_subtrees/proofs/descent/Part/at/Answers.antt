use Rattle.std.proofs.Common.{◌∙◌, ap}
use Rattle.ct_subtrees.specs.Walk.{part_below}
use Rattle.ct_subtrees.specs.declared.descent.Part.{Part}
use Rattle.ct_subtrees.proofs.Depths.{at-root, at-next}
use Rattle.ct_subtrees.proofs.descent.Part.at.Goals as goal

pub loop-init : goal.loop-init
loop-init c = record { some = c.requires.some; inside = c.requires.inside; part = at-root c.args.self }

pub loop-preserved : goal.loop-preserved
loop-preserved c = record {
  some = c.below-part.ensures.some;
  inside = c.below-part.ensures.inside;
  part = c.below-part.ensures.part ∙ ap (λ (t : Part). part_below t) c.loop.invariant.part ∙ at-next c.loop.counter c.args.self;
}
