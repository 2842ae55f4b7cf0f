-- The objects in the staged batch of a step are those that the step writes.
use Rattle.std.proofs.Common.{◌≡◌, ◌∙◌, ap, sym, subst, ℕ, List, Vec, Global}
use Rattle.std.specs.Prelude.{◌≢◌, Result, Ok, Err}
use Rattle.ct_step.specs.Bundle.{IsBundleOf}
use Rattle.ct_step.specs.Resumed.{AnswersResume}
use Rattle.ct_step.specs.declared.bundle.Object.{Object}
use Rattle.ct_step.specs.declared.rolling_out.ResumeFault.{ResumeFault}
use Rattle.ct_step.proofs.Bundles.{bundles_are_resumed, bundles_tell}
use Rattle.ct_step.specs.declared.line.StateLine.{StateLine}
use Rattle.ct_verify.specs.Evidence.{Collides}
use Rattle.ct_step.specs.RollingOut.{IsRolledOut, StepsAreRolledOut}
use Rattle.ct_step.specs.Steps.{new_entries, step_objects}

others_tell : (H : List ℕ → List ℕ) (line : StateLine) (own bytes : List ℕ) (r : Result (Vec Object Global) ResumeFault) → line.bundle ≡ H own
    → AnswersResume H line bytes r → bytes ≢ own → IsRolledOut r → Collides H bytes own
others_tell H line own bytes (Ok found) d a other out = bundles_tell H line bytes own a.0 (sym d) other
others_tell H line own bytes (Err fault) d a other out = absurd out

pub steps_are_rolled_out : StepsAreRolledOut
steps_are_rolled_out H seen E batch now s bytes r p a =
    let objects = step_objects H E (new_entries E batch now) in (
      (λ (e : bytes ≡ s.bundle.items). bundles_are_resumed H s.line objects bytes r (subst (IsBundleOf objects) (sym e) p.bundle)
          (p.digest ∙ ap H (sym e)) a),
      others_tell H s.line s.bundle.items bytes r p.digest a,
    )
