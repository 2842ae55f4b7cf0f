use Rattle.std.proofs.Common.{◌≡◌, ℕ, List, [], ◌∷◌, Some, None, map, refl}
use Rattle.ct_step.specs.declared.claim.Claim.{Claim}
use Rattle.ct_step.specs.StepAnswers.{IsReplyTo}
use Rattle.ct_step.specs.StepAsks.{claim_of_batch, for_no_batch}
use Rattle.ct_step.specs.StepBytes.{entry_parts}
use Rattle.ct_step.specs.StepCalls.{claim_of_one, one_submission, IsReplyToClaim}
use Rattle.ct_step.specs.StepRepeats.{BatchEntry}
use Rattle.ct_step.specs.StepWords.{refuses}
use Rattle.ct_step.specs.declared.answer.StepRefusal.TheVariants.{BadBatch}
use Rattle.ct_step.proofs.StepKept.{by_less, by_reply}
use Rattle.ct_step.proofs.calls.claim.Goals as goal

same_claim : (B : List BatchEntry) (claim : Claim) (path : List (List ℕ)) (state : List ℕ)
    → claim_of_one (one_submission B) claim path state ≡ claim_of_batch (Some B) claim path state
same_claim [] claim path state = refl
same_claim (e ∷ []) claim path state = refl
same_claim (e ∷ f ∷ rest) claim path state = refl

pub returns-in-Some : goal.returns-in-Some
returns-in-Some c =
    let batch = map entry_parts c.in-Some.batch.items in
    let is = rw c.in-Some.is at c.in_ok-batch.ensures in
    let told = rw c.deref.ensures.value at c.claim_of.ensures in
    let asked = claim_of_one (one_submission batch) c.args.claim c.args.path.now c.args.state.now in
    by_less c.claim_of.result [] (IsReplyTo asked) (IsReplyToClaim c.args.submission.now c.args.claim c.args.path.now c.args.state.now)
    (λ reply to. (asked, (Some batch, is, same_claim batch c.args.claim c.args.path.now c.args.state.now), to)) told

pub returns-in-None : goal.returns-in-None
returns-in-None c =
    let none = rw c.in-None.is at c.in_ok-batch.ensures in
    by_reply c.refused_line.result [] (refuses BadBatch) (IsReplyToClaim c.args.submission.now c.args.claim c.args.path.now c.args.state.now)
    (for_no_batch, (None, none, refl), refl) c.refused_line.ensures
