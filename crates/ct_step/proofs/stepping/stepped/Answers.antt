use Rattle.std.proofs.Common.{ℕ, List, Option, subst, refl, map}
use Rattle.std.specs.Prelude.{IfOk}
use Rattle.ct_step.specs.StepAnswers.{IsStepReply, edge_of}
use Rattle.ct_step.specs.StepBytes.{entry_parts}
use Rattle.ct_step.specs.StepReplies.{IsReplyText}
use Rattle.ct_step.specs.StepWords.{refuses}
use Rattle.ct_step.specs.declared.answer.StepRefusal.TheVariants.{Edge}
use Rattle.ct_step.proofs.StepKept.{by_reply}
use Rattle.ct_step.proofs.stepping.stepped.Goals as goal

pub returns-in-Some : goal.returns-in-Some
returns-in-Some c =
    let is = rw c.in-Some.is at c.in_ok-tiles.ensures in
    let told = rw c.deref.ensures.value at c.taken.ensures in
    subst (λ (e : Option (List (List ℕ) × List ℕ)).
    IfOk c.taken.result (λ t. IsReplyText c.args.origin.now t (IsStepReply c.args.line.now e (map entry_parts c.args.batch.items) c.args.now))) is told

pub returns-in-None : goal.returns-in-None
returns-in-None c =
    let is = rw c.in-None.is at c.in_ok-tiles.ensures in
    by_reply c.refused_line.result c.args.origin.now (refuses Edge)
    (IsStepReply c.args.line.now (edge_of c.args.line.now.tree_size (map (λ b. b.items) c.args.contents.now)) (map entry_parts c.args.batch.items) c.args.now)
    (subst (λ (e : Option (List (List ℕ) × List ℕ)). IsStepReply c.args.line.now e (map entry_parts c.args.batch.items) c.args.now (refuses Edge)) is refl)
    c.refused_line.ensures
