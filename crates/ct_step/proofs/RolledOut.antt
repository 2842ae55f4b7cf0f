-- The objects that are published from a lock's line are those that its maker would have put.
use Rattle.std.proofs.Common.{◌≡◌, ◌∙◌, ℕ, List, [], ◌∷◌, ◌++◌, length, refl, sym, ap, subst, inl, inr, arith}
use Rattle.std.proofs.lemmas.List.{append-nil}
use Rattle.std.specs.Prelude.{◌≢◌}
use Rattle.ct_step.specs.Bundle.{bundle_text, IsBundleOf}
use Rattle.ct_step.proofs.Bundles.{begun, bundles_tell, object_some}
use Rattle.ct_step.specs.declared.line.StateLine.{StateLine}
use Rattle.ct_step.proofs.StateLines.{state_lines_differ}
use Rattle.ct_step.specs.Steps.{new_entries, step_objects, IsTiledStep}
use Rattle.ct_step.specs.declared.step.Step.{Step}
use Rattle.ct_data_tiles.specs.TileLeaf.{Tiled}
use Rattle.ct_verify.specs.Evidence.{Collides}
use Rattle.ct_step.specs.RolledOut.{ResumedLinesAreRolledOut}
use Rattle.ct_step.specs.StepAnswers.{IsResumeReplyBy}
use Rattle.ct_step.specs.StepRepeats.{BatchEntry}
use Rattle.ct_step.specs.StepWords.{Reference, references_of, rolls_out, refuses}
use Rattle.ct_step.specs.declared.answer.StepRefusal.{StepRefusal}

no_refusal : (line : StateLine) (objects : List Reference) (r : StepRefusal) → rolls_out line objects ≡ refuses r → ⊥
no_refusal line objects r e = cc

same_reply : (a b : StateLine) (x y : List Reference) → rolls_out a x ≡ rolls_out b y → x ≡ y
same_reply a b x y e = cc

none : (more : List (List ℕ × List ℕ)) → [] ≡ bundle_text more → more ≡ []
none [] e = refl
none (o ∷ more) e = absurd (omega (arith, ap length e, object_some o (bundle_text more)))

pub one_list : (a b : List (List ℕ × List ℕ)) (bytes : List ℕ) → IsBundleOf a bytes → IsBundleOf b bytes → a ≡ b
one_list a b bytes p q =
    let more = begun b a [] q.fit p.fit (append-nil (bundle_text b) ∙ sym q.text ∙ p.text) in
    more.1 ∙ ap (λ (x : List (List ℕ × List ℕ)). b ++ x) (none more.0 more.2) ∙ append-nil b

told : (H : List ℕ → List ℕ) (seen : StateLine) (E : List Tiled) (batch : List BatchEntry) (now : ℕ) (s : Step) (bytes : List ℕ) (line : StateLine)
    (objects : List Reference) → IsTiledStep H seen E batch now s → IsResumeReplyBy H s.line bytes (rolls_out line objects)
    → (bytes ≡ s.bundle.items → objects ≡ references_of H (step_objects H E (new_entries E batch now))) × (bytes ≢ s.bundle.items → Collides H bytes s.bundle.items)
told H seen E batch now s bytes line objects made (inl tells) =
    let own = step_objects H E (new_entries E batch now) in (
      (λ (e : bytes ≡ s.bundle.items). same_reply line s.line objects (references_of H tells.0) tells.1
          ∙ ap (references_of H) (one_list tells.0 own bytes tells.3.0 (subst (IsBundleOf own) (sym e) made.bundle))),
      (λ (other : bytes ≢ s.bundle.items). bundles_tell H s.line bytes s.bundle.items tells.2 (sym made.digest) other),
    )
told H seen E batch now s bytes line objects made (inr none) = absurd (no_refusal line objects _ none.0)

pub resumed_lines_are_rolled_out : ResumedLinesAreRolledOut
resumed_lines_are_rolled_out H seen E batch now s bytes line objects made known (inl of) =
    let same : of.0 ≡ s.line = state_lines_differ of.0 s.line of.1 known of.2 in
    told H seen E batch now s bytes line objects made
    (subst (λ (l : StateLine). IsResumeReplyBy H l bytes (rolls_out line objects)) same of.3)
resumed_lines_are_rolled_out H seen E batch now s bytes line objects made known (inr none) = absurd (no_refusal line objects _ none.1)
