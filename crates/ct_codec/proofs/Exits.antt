-- The exit of a `?`, with the fault that was met.
use Rattle.std.proofs.Common.{◌≡◌, Result, sym, subst}
use Rattle.std.specs.Prelude.{IfErr}
use Rattle.std.specs.Result.{IsErrAnd}
use Rattle.std.proofs.lemmas.Result.{err_from_is_err_and}

pub left_with : {T E : Type 0} (P : E → Type 0) (f : E) (r : Result T E) → IsErrAnd r (λ e. e ≡ f) → P f → IfErr r P
left_with {T} {E} P f r met holds = let p = err_from_is_err_and r met in subst (λ (r : Result T E). IfErr r P) (sym p.1) (subst P (sym p.2) holds)
