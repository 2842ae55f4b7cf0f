-- A path or proof that is computed from the tiles of a list is not refused.
use Rattle.std.proofs.Common.{◌≡◌, ◌∙◌, ◌<◌, ◌≤◌, ℕ, true, List, [], length, take, get_or, sym, ap, arith, ⊎_elim}
use Rattle.ct_tree.specs.Tree.{mth, path, proof, split}
use Rattle.ct_tree.specs.Lengths.{subproof_length}
use Rattle.ct_tree.proofs.SubproofLength.{subproof_length-left, subproof_length-right}
use Rattle.std.proofs.lemmas.Bool.{cases_lt}
use Rattle.std.proofs.lemmas.List.{length-take-le, take-take}
use Rattle.ct_tiles.specs.Given.{GivesTilesOf}
use Rattle.ct_verify.specs.Verdict.{AcceptsInclusion, RefusesInclusion, AcceptsConsistency, RefusesConsistency}
use Rattle.ct_verify.specs.declared.fault.ProofFault.{ProofFault}
use Rattle.ct_verify.proofs.Equations.{path_accepted, path_not_refused, proof_accepted, proof_not_refused}

pub never : (H : List ℕ → List ℕ) (D : List (List ℕ)) (leaf : List ℕ) (m n : ℕ) (p : List (List ℕ)) (root : List ℕ) (fault : ProofFault)
    → length D ≡ n → m < n → leaf ≡ get_or D m [] → root ≡ mth H D → p ≡ path H m D → RefusesInclusion H leaf m n p root fault → ⊥
never H D leaf m n p root fault size below l r e refused =
    let accepted : AcceptsInclusion H leaf m n p root = rw (l, sym size, r, e) (path_accepted H m D (omega (arith, size, below))) in
    path_not_refused H leaf m n p root fault accepted refused

pub never_of_tiles : (H : List ℕ → List ℕ) (given : ℕ → ℕ → List ℕ) (D : List (List ℕ)) (leaf : List ℕ) (m n : ℕ) (p : List (List ℕ)) (root : List ℕ) (fault : ProofFault)
    → ((E : List (List ℕ)) → GivesTilesOf H given E → n ≤ length E → p ≡ path H m (take n E)) → RefusesInclusion H leaf m n p root fault
    → GivesTilesOf H given D → n ≤ length D → m < n → leaf ≡ get_or (take n D) m [] → root ≡ mth H (take n D) → ⊥
never_of_tiles H given D leaf m n p root fault made refused tiles inside below l r =
    never H (take n D) leaf m n p root fault (length-take-le n D inside) below l r (made D tiles inside) refused

proof_never : (H : List ℕ → List ℕ) (D : List (List ℕ)) (m n : ℕ) (p : List (List ℕ)) (x y : List ℕ) (fault : ProofFault)
    → length D ≡ n → 0 < m → m < n → x ≡ mth H (take m D) → y ≡ mth H D → p ≡ proof H m D → RefusesConsistency H m n x y p fault → ⊥
proof_never H D m n p x y fault size z below f s e refused =
    let accepted : AcceptsConsistency H m n x y p = rw (f, s, sym size, e) (proof_accepted H m D z (omega (arith, size, below))) in
    proof_not_refused H m n x y p fault accepted refused

pub proof_never_of_tiles : (H : List ℕ → List ℕ) (given : ℕ → ℕ → List ℕ) (D : List (List ℕ)) (m n : ℕ) (p : List (List ℕ)) (x y : List ℕ) (fault : ProofFault)
    → ((E : List (List ℕ)) → GivesTilesOf H given E → n ≤ length E → p ≡ proof H m (take n E)) → RefusesConsistency H m n x y p fault
    → GivesTilesOf H given D → n ≤ length D → 0 < m → m < n → x ≡ mth H (take m D) → y ≡ mth H (take n D) → ⊥
proof_never_of_tiles H given D m n p x y fault made refused tiles inside z below f s =
    let first : x ≡ mth H (take m (take n D)) = f ∙ ap (mth H) (sym (take-take m n D (omega arith))) in
    proof_never H (take n D) m n p x y fault (length-take-le n D inside) z below first s (made D tiles inside) refused

-- a proof between two sizes has at least one hash
pub has_a_hash : (m n : ℕ) → 0 < m → m < n → 0 < subproof_length m n true
has_a_hash m n z l =
    ⊎_elim
    (λ (high : split n < m). omega (arith, subproof_length-right m n true z l high))
    (λ (low : m ≤ split n). omega (arith, subproof_length-left m n true z l low))
    (cases_lt (split n) m)
