-- A call of a step that returned 0 has written a reply that is no refusal.
use Rattle.std.proofs.Common.{◌≡◌, ◌∙◌, ◌⊎◌, ◌<◌, ⊎_elim, refl, arith, sym, ap, subst, ℕ, List, [], ◌∷◌, ◌++◌, length, take, drop, Option, Some, None}
use Rattle.std.specs.Prelude.{Bool, true, false, nat_lt, if◌then◌else◌, ⊤, Result, Ok, Err}
use Rattle.std.proofs.Math.Seq.{take-append_seam}
use Rattle.ct_step.specs.declared.claim.Claim.{Claim}
use Rattle.ct_step.specs.StateLines.{IsStateLine, NoStateLine, state_line_text}
use Rattle.ct_step.specs.declared.line.StateLine.{StateLine}
use Rattle.ct_step.specs.declared.step.Step.{Step}
use Rattle.ct_step.specs.StepAnswers.{edge_of, first_line_by, IsBoundedReplyBy, IsClaimReplyBy, IsReplyTo, IsReplyToBy, IsResumeReplyBy, IsStepReplyBy, TellsClaimBy, TellsNoStepBy, TellsObjectsBy, TellsStepBy}
use Rattle.ct_step.specs.StepAsks.{StepAsk, for_begin, for_claim, for_no_edge, for_resume, for_step, for_too_many, claim_of_batch, step_of_batch, step_of_edge}
use Rattle.ct_step.specs.StepBytes.{IsBatchText, IsContentsText}
use Rattle.ct_step.specs.StepCalls.{IsReplyToClaim, IsReplyToStep}
use Rattle.ct_step.specs.StepLaws.{RepliedStepsAreAttempts}
use Rattle.ct_step.specs.StepRepeats.{BatchEntry, places_of_all}
use Rattle.ct_step.specs.StepReplies.{reply_parts}
use Rattle.ct_step.specs.StepWords.{Reference, StepReply, references_of, begins, steps, rolls_out, stands, refuses}
use Rattle.ct_step.specs.declared.answer.StepRefusal.{StepRefusal}
use Rattle.ct_step.specs.declared.answer.StepRefusal.TheVariants.{BadBatch, BadState, TooMany, TooFar, Edge, Entries, ClockBack, Full, TooLong, Bundle, Claim as NoClaim}
use Rattle.ct_step.specs.Leaves.{receipt_parts}
use Rattle.libwagtenib.specs.Step.{step_code, AnswersIn, AnswersOrigin, IsOrigin, IsToldIn}
use Rattle.libwagtenib.specs.StepLaws.{CallsBeginLogs, CallsMakeSteps, CallsAnswerClaims, CallsResumeSteps}
use Rattle.sha2.specs.Sha256.{sha256}

-- ---- 0 is no refusal
no_zero : (f : StepRefusal) → 0 ≡ step_code f → ⊥
no_zero TooFar e = omega (arith, e)
no_zero BadState e = omega (arith, e)
no_zero Edge e = omega (arith, e)
no_zero Entries e = omega (arith, e)
no_zero ClockBack e = omega (arith, e)
no_zero Full e = omega (arith, e)
no_zero TooLong e = omega (arith, e)
no_zero Bundle e = omega (arith, e)
no_zero NoClaim e = omega (arith, e)
no_zero BadBatch e = omega (arith, e)
no_zero TooMany e = omega (arith, e)

told_text : (r : Result (List ℕ) StepRefusal) (before after : List ℕ) (count_before count : ℕ) → IsToldIn r 0 before after count_before count → r ≡ Ok (take count after)
told_text (Err f) before after count_before count w = absurd (no_zero f w.0)
told_text (Ok text) before after count_before count w =
    ⊎_elim
    (λ (x : (0 ≡ 0) × (after ≡ text ++ drop (length text) before)).
    sym (ap Ok (ap (λ (n : ℕ). take n after) w.0 ∙ ap (λ (z : List ℕ). take (length text) z) x.1 ∙ take-append_seam text (drop (length text) before))))
    (λ (x : (0 ≡ 9) × (after ≡ before) × (length before < length text)). absurd (omega (arith, x.0)))
    w.1

answered : (origin : List ℕ) (P : StepReply → Type 0) (before after : List ℕ) (count_before count : ℕ) → AnswersIn origin P 0 before after count_before count
    → (reply : StepReply) × P reply × (reply_parts origin reply ≡ Ok (take count after))
answered origin P before after count_before count a =
    ⊎_elim
    (λ (r : (reply : StepReply) × P reply × IsToldIn (reply_parts origin reply) 0 before after count_before count).
    (r.0, r.1, told_text (reply_parts origin r.0) before after count_before count r.2))
    (λ (r : (0 ≡ 8) × (after ≡ before) × (count ≡ count_before)). absurd (omega (arith, r.0)))
    a

with_origin : (origin : List ℕ) (P : StepReply → Type 0) (before after : List ℕ) (count_before count : ℕ) → AnswersOrigin origin P 0 before after count_before count
    → AnswersIn origin P 0 before after count_before count
with_origin origin P before after count_before count a =
    ⊎_elim
    (λ (r : IsOrigin origin × AnswersIn origin P 0 before after count_before count). r.1)
    (λ (r : (0 ≡ 10) × (IsOrigin origin → ⊥) × (after ≡ before) × (count ≡ count_before)). absurd (omega (arith, r.0)))
    a

abbrev IsErr : Result (List ℕ) StepRefusal → Type 0
IsErr (Ok t) = ⊥
IsErr (Err f) = ⊤

refused : (origin : List ℕ) (reply : StepReply) (f : StepRefusal) (t : List ℕ) → reply ≡ refuses f → reply_parts origin reply ≡ Ok t → ⊥
refused origin reply f t e w = subst IsErr (sym (ap (reply_parts origin) e) ∙ w) tt

abbrev text_of : Result (List ℕ) StepRefusal → List ℕ
text_of (Ok t) = t
text_of (Err f) = []

-- the text of a reply, if it is this other one
text_is : (origin : List ℕ) (reply other : StepReply) (t : List ℕ) → reply ≡ other → reply_parts origin reply ≡ Ok t → t ≡ text_of (reply_parts origin other)
text_is origin reply other t e w = ap text_of (sym w ∙ ap (reply_parts origin) e)

-- ---- a step
module _ (origin state : List ℕ) (now ahead : ℕ) (reply : StepReply) (t : List ℕ) (w : reply_parts origin reply ≡ Ok t) where
  none : {A : Type 0} (f : StepRefusal) → reply ≡ refuses f → A
  none f e = absurd (refused origin reply f t e w)

  abbrev pub Made : Type 0
  Made = (line : StateLine) × (s : Step) × (places : List ℕ) × (objects : List Reference) × IsStateLine line × (state_line_text line ≡ state)
      × (reply ≡ steps s places objects)

  of_edge : (line : StateLine) → IsStateLine line → state_line_text line ≡ state → (o : Option (List (List ℕ) × List ℕ)) (B : List BatchEntry)
      → IsStepReplyBy sha256 line o B now reply → Made
  of_edge line is same None B r = none Edge r
  of_edge line is same (Some edge) B r =
      ⊎_elim
      (λ (m : TellsStepBy sha256 line edge B now reply). (line, m.0, places_of_all [] B, references_of sha256 m.1, is, same, m.2))
      (λ (m : TellsNoStepBy sha256 line edge B now reply). none m.1 m.2)
      r

  of_bound : (line : StateLine) → IsStateLine line → state_line_text line ≡ state → (B : List BatchEntry) (C : List (List ℕ))
      → IsBoundedReplyBy sha256 line (edge_of line.tree_size C) B now ahead reply → Made
  of_bound line is same B C r = ⊎_elim (λ x. none TooFar x.1) (λ x. of_edge line is same (edge_of line.tree_size C) B x.1) r

  of_state : (B : List BatchEntry) (C : List (List ℕ)) → IsReplyTo (for_step B C now state ahead) reply → Made
  of_state B C r =
      ⊎_elim
      (λ (x : (line : StateLine) × IsStateLine line × (state_line_text line ≡ state)
      × IsBoundedReplyBy sha256 line (edge_of line.tree_size C) B now ahead reply).
      of_bound x.0 x.1 x.2 B C x.3)
      (λ (x : NoStateLine state × (reply ≡ refuses BadState)). none BadState x.1)
      r

  of_no_edge : {A : Type 0} → IsReplyTo (for_no_edge now state ahead) reply → A
  of_no_edge r =
      ⊎_elim
      (λ (x : (line : StateLine) × IsStateLine line × (state_line_text line ≡ state) × IsBoundedReplyBy sha256 line None [] now ahead reply).
      ⊎_elim (λ y. none TooFar y.1) (λ y. none Edge y.1) x.3)
      (λ (x : NoStateLine state × (reply ≡ refuses BadState)). none BadState x.1)
      r

  abbrev pub IsMade : List ℕ → List ℕ → Type 0
  IsMade batch edge = (B : List BatchEntry) × (C : List (List ℕ)) × IsBatchText batch (Some B) × IsContentsText edge (Some C)
      × IsReplyTo (for_step B C now state ahead) reply × Made

  of_contents : (batch edge : List ℕ) (B : List BatchEntry) (contents : Option (List (List ℕ))) → IsBatchText batch (Some B) → IsContentsText edge contents
      → IsReplyTo (step_of_edge B contents now state ahead) reply → IsMade batch edge
  of_contents batch edge B None b c r = of_no_edge r
  of_contents batch edge B (Some C) b c r = (B, C, b, c, r, of_state B C r)

  of_count : (batch edge : List ℕ) (B : List BatchEntry) (contents : Option (List (List ℕ))) (many : Bool) → IsBatchText batch (Some B) → IsContentsText edge contents
      → IsReplyTo (if many then for_too_many else step_of_edge B contents now state ahead) reply → IsMade batch edge
  of_count batch edge B contents true b c r = none TooMany r
  of_count batch edge B contents false b c r = of_contents batch edge B contents b c r

  of_batch : (batch edge : List ℕ) (entries : Option (List BatchEntry)) (contents : Option (List (List ℕ))) → IsBatchText batch entries → IsContentsText edge contents
      → IsReplyTo (step_of_batch entries contents now state ahead) reply → IsMade batch edge
  of_batch batch edge None contents b c r = none BadBatch r
  of_batch batch edge (Some B) contents b c r = of_count batch edge B contents (nat_lt 4096 (length B)) b c r

pub calls_make_steps : RepliedStepsAreAttempts → CallsMakeSteps
calls_make_steps replied origin state edge batch now ahead before after count_before count makes =
    let P = IsReplyToStep batch edge now state ahead in
    let a = answered origin P before after count_before count (with_origin origin P before after count_before count makes) in
    let asked = a.1 in
    let how = asked.1 in
    let m = of_batch origin state now ahead a.0 (take count after) a.2 batch edge how.0 how.1 how.2 how.3 (subst (λ (q : StepAsk). IsReplyTo q a.0) how.4 asked.2) in
    let made = m.5 in
    let told = steps made.1 made.2 made.3 in
    let is : IsReplyTo (for_step m.0 m.1 now state ahead) told = subst (λ (z : StepReply). IsReplyTo (for_step m.0 m.1 now state ahead) z) made.6 m.4 in (
      m.0,
      m.1,
      made.0,
      made.1,
      made.2,
      made.3,
      m.2,
      m.3,
      made.4,
      made.5,
      is,
      λ took.
          replied sha256 made.0 m.0 m.1 now ahead made.1 made.2 made.3 took made.4
          (subst (λ (z : List ℕ). IsReplyToBy sha256 (for_step m.0 m.1 now z ahead) told) (sym made.5) is),
      text_is origin a.0 told (take count after) made.6 a.2,
    )

-- ---- a claim
module _ (state : List ℕ) (claim : Claim) (path : List (List ℕ)) (reply : StepReply) (t : List ℕ) (w : reply_parts [] reply ≡ Ok t) where
  nothing : {A : Type 0} (f : StepRefusal) → reply ≡ refuses f → A
  nothing f e = absurd (refused [] reply f t e w)

  abbrev pub IsClaimed : List ℕ → Type 0
  IsClaimed submission = (e : BatchEntry) × (receipt : ℕ × ℕ × List ℕ) × IsBatchText submission (Some (e ∷ []))
      × IsReplyTo (for_claim claim path state e.0) (stands receipt) × (reply ≡ stands receipt)

  of_claim : (submission : List ℕ) (e : BatchEntry) → IsBatchText submission (Some (e ∷ [])) → IsReplyTo (for_claim claim path state e.0) reply → IsClaimed submission
  of_claim submission e b r =
      ⊎_elim
      (λ (x : (line : StateLine) × IsStateLine line × (state_line_text line ≡ state) × IsClaimReplyBy sha256 line claim path e.0 reply).
      ⊎_elim
      (λ (m : TellsClaimBy sha256 x.0 claim path e.0 reply).
      (e, receipt_parts m.0, b, subst (λ (z : StepReply). IsReplyTo (for_claim claim path state e.0) z) m.1 r, m.1))
      (λ m. nothing NoClaim m.0)
      x.3)
      (λ (x : NoStateLine state × (reply ≡ refuses BadState)). nothing BadState x.1)
      r

  of_one : (submission : List ℕ) (entries : Option (List BatchEntry)) → IsBatchText submission entries → IsReplyTo (claim_of_batch entries claim path state) reply
      → IsClaimed submission
  of_one submission None b r = nothing BadBatch r
  of_one submission (Some []) b r = nothing BadBatch r
  of_one submission (Some (e ∷ [])) b r = of_claim submission e b r
  of_one submission (Some (e ∷ f ∷ rest)) b r = nothing BadBatch r

pub calls_answer_claims : CallsAnswerClaims
calls_answer_claims state claim path submission before after count_before count answers =
    let a = answered [] (IsReplyToClaim submission claim path state) before after count_before count answers in
    let asked = a.1 in
    let how = asked.1 in
    let m = of_one state claim path a.0 (take count after) a.2 submission how.0 how.1 (subst (λ (q : StepAsk). IsReplyTo q a.0) how.2 asked.2) in
    (m.0, m.1, m.2, m.3, text_is [] a.0 (stands m.1) (take count after) m.4 a.2)

-- ---- the step that made a state
pub calls_resume_steps : CallsResumeSteps
calls_resume_steps origin state bundle before after count_before count resumes =
    let P = IsReplyTo (for_resume bundle state) in
    let a = answered origin P before after count_before count (with_origin origin P before after count_before count resumes) in
    ⊎_elim
    (λ (x : (line : StateLine) × IsStateLine line × (state_line_text line ≡ state) × IsResumeReplyBy sha256 line bundle a.0).
    ⊎_elim
    (λ (m : TellsObjectsBy sha256 x.0 bundle a.0).
    let told = rolls_out x.0 (references_of sha256 m.0) in
    (x.0, references_of sha256 m.0, subst (λ (z : StepReply). IsReplyTo (for_resume bundle state) z) m.1 a.1, text_is origin a.0 told (take count after) m.1 a.2))
    (λ m. absurd (refused origin a.0 Bundle (take count after) m.0 a.2))
    x.3)
    (λ (x : NoStateLine state × (a.0 ≡ refuses BadState)). absurd (refused origin a.0 BadState (take count after) x.1 a.2))
    a.1

-- ---- the first line
pub calls_begin_logs : CallsBeginLogs
calls_begin_logs timestamp before after count_before count starts =
    let a = answered [] (λ reply. IsReplyTo (for_begin timestamp) reply) before after count_before count starts in
    text_is [] a.0 (begins (first_line_by sha256 timestamp)) (take count after) a.1 a.2
