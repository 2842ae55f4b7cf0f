-- Heads that a register took were let through one after the other.
use Rattle.std.proofs.Common.{◌≡◌, sym, subst, inl, inr, Bool, ℕ, List, [], ◌∷◌, Option, Some}
use Rattle.ct_tree.specs.declared.head.Head.{Head}
use Rattle.ct_guard.specs.Guarded.{PassesHead}
use Rattle.ct_guard.specs.History.{ArePassed}
use Rattle.ct_guard.specs.Register.{GuardAttempt, AreGuardAttempts, if_taken, taken_heads, GuardsAgree}
use Rattle.ct_guard.proofs.History.{passed_heads_agree}

taken_are_passed : (H : List ℕ → List ℕ) (held : Option Head) (attempts : List GuardAttempt) → AreGuardAttempts H held attempts
    → ArePassed H held (taken_heads attempts)
unfolding AreGuardAttempts ArePassed
taken_are_passed H held [] a = tt
taken_are_passed H held (x ∷ rest) (inl t) =
    subst (λ (b : Bool). ArePassed H held (if_taken b x.passed (taken_heads rest))) (sym t.0) (
      subst (λ (o : Option Head). PassesHead H o x.passed.head x.passed.proof) t.1 t.2.0,
      t.2.1,
      t.2.2,
      taken_are_passed H (Some x.passed.head) rest t.3,
    )
taken_are_passed H held (x ∷ rest) (inr t) =
    subst (λ (b : Bool). ArePassed H held (if_taken b x.passed (taken_heads rest))) (sym t.0) (taken_are_passed H held rest t.1)

pub guards_agree : GuardsAgree
guards_agree H hash_length held attempts a = passed_heads_agree H hash_length held (taken_heads attempts) (taken_are_passed H held attempts a)
