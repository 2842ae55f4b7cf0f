use Rattle.std.proofs.Common.{inl, refl, map}
use Rattle.ct_step.specs.StepAnswers.{IsBoundedReply, edge_of}
use Rattle.ct_step.specs.StepBytes.{entry_parts}
use Rattle.ct_step.specs.StepWords.{refuses}
use Rattle.ct_step.specs.declared.answer.StepRefusal.TheVariants.{TooFar}
use Rattle.ct_step.proofs.StepKept.{by_reply}
use Rattle.ct_step.proofs.stepping.bounded.Goals as goal

pub returns-then-is_too_far : goal.returns-then-is_too_far
returns-then-is_too_far c =
    let far = rw c.if-is_too_far.true at c.is_too_far.ensures in
    by_reply c.refused_line.result c.args.origin.now (refuses TooFar)
    (IsBoundedReply c.args.line.now (edge_of c.args.line.now.tree_size (map (λ b. b.items) c.args.contents.now)) (map entry_parts c.args.batch.items)
    c.args.now c.args.most) (inl (far, refl)) c.refused_line.ensures
