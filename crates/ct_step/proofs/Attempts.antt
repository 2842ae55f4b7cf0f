-- Each step in a reply is an attempt to which the theorem about sequencers applies.
use Rattle.std.proofs.Common.{◌≡◌, ℕ, Bool, List, [], Option, Some, None, refl, sym, subst, inl, inr, arith}
use Rattle.ct_codec.specs.Submitted.{Submitted}
use Rattle.ct_step.specs.declared.line.StateLine.{StateLine}
use Rattle.ct_step.proofs.StateLines.{state_lines_differ}
use Rattle.ct_step.specs.Lines.{IsMadeOfEdge}
use Rattle.ct_step.specs.declared.step.Step.{Step}
use Rattle.ct_tree.specs.Tree.{mth, mth_within}
use Rattle.ct_step.specs.StepAnswers.{edge_of, IsStepReplyBy, IsBoundedReplyBy}
use Rattle.ct_step.specs.StepLaws.{FirstLineBegins, RepliedStepsAreAttempts}
use Rattle.ct_step.specs.StepRepeats.{first_of_each}
use Rattle.ct_step.specs.StepWords.{Reference, steps, refuses}
use Rattle.ct_step.specs.declared.answer.StepRefusal.{StepRefusal}

pub first_line_begins : FirstLineBegins
unfolding mth mth_within
first_line_begins H moment = record { few = omega arith; size = refl; root = refl; entries = refl }

no_refusal : (s : Step) (p : List ℕ) (o : List Reference) (r : StepRefusal) → steps s p o ≡ refuses r → ⊥
no_refusal s p o r e = cc

same_step : (s t : Step) (p q : List ℕ) (a b : List Reference) → steps s p a ≡ steps t q b → s ≡ t
same_step s t p q a b e = cc

abbrev Attempted : (List ℕ → List ℕ) → StateLine → List (Submitted × List (List ℕ)) → ℕ → Step → Bool → Option (List (List ℕ) × List ℕ) → Type 0
Attempted H line batch now step took handed =
    (edge : List (List ℕ) × List ℕ) × (handed ≡ Some edge)
    × IsMadeOfEdge H (record {
      edge = edge.0;
      entries = edge.1;
      attempt = record { seen = line; batch = first_of_each [] batch; now = now; step = step; took = took };
    })

attempt : (H : List ℕ → List ℕ) (line : StateLine) (batch : List (Submitted × List (List ℕ))) (now : ℕ) (step : Step) (places : List ℕ) (objects : List Reference)
    (took : Bool)
    (handed : Option (List (List ℕ) × List ℕ)) → IsStepReplyBy H line handed batch now (steps step places objects) → Attempted H line batch now step took handed
attempt H line batch now step places objects took None is = absurd (no_refusal step places objects _ is)
attempt H line batch now step places objects took (Some edge) (inl tells) =
    subst (λ (s : Step). Attempted H line batch now s took (Some edge)) (sym (same_step step tells.0 places _ objects _ tells.2))
    (edge, refl, record { may = tells.4; from = tells.5; step = tells.6 })
attempt H line batch now step places objects took (Some edge) (inr none) = absurd (no_refusal step places objects none.1 none.2)

bounded : (H : List ℕ → List ℕ) (line : StateLine) (batch : List (Submitted × List (List ℕ))) (now most : ℕ) (step : Step) (places : List ℕ) (objects : List Reference)
    (took : Bool)
    (handed : Option (List (List ℕ) × List ℕ)) → IsBoundedReplyBy H line handed batch now most (steps step places objects)
    → Attempted H line batch now step took handed
bounded H line batch now most step places objects took handed (inl far) = absurd (no_refusal step places objects _ far.1)
bounded H line batch now most step places objects took handed (inr near) = attempt H line batch now step places objects took handed near.1

pub replied_steps_are_attempts : RepliedStepsAreAttempts
replied_steps_are_attempts H line batch contents now most step places objects took is (inl of) =
    let same : of.0 ≡ line = state_lines_differ of.0 line of.1 is of.2 in
    bounded H line batch now most step places objects took (edge_of line.tree_size contents)
    (subst (λ (l : StateLine). IsBoundedReplyBy H l (edge_of l.tree_size contents) batch now most (steps step places objects)) same of.3)
replied_steps_are_attempts H line batch contents now most step places objects took is (inr none) = absurd (no_refusal step places objects _ none.1)
