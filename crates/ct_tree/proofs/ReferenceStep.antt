-- A step of the reference program: the result for one part, and the other part's root.
use Rattle.std.proofs.Common.{◌≡◌, ℕ, ◌-◌, ◌<◌, ◌≤◌, Bool, false, List, [], ◌∷◌, ◌++◌, length, take, drop, sym}
use Rattle.ct_tree.specs.Tree.{split, mth, path, subproof}
use Rattle.ct_tree.proofs.Path.{path-left, path-right}
use Rattle.ct_tree.proofs.Subproof.{subproof-left, subproof-right}

-- the list D is cut at k into L and R; S is the result for one part, and r is the root of the other
module _ (H : List ℕ → List ℕ) (m k : ℕ) (D L R S : List (List ℕ)) (r : List ℕ) (e : k ≡ split (length D)) (left : L ≡ take k D) (right : R ≡ drop k D) where
  pub path_from_left : 1 < length D → m < k → S ≡ path H m L → r ≡ mth H R → S ++ r ∷ [] ≡ path H m D
  path_from_left h low s t = rw (s, t, left, right) (sym (path-left H m k D h (sym e) low))

  pub path_from_right : 1 < length D → k ≤ m → S ≡ path H (m - k) R → r ≡ mth H L → S ++ r ∷ [] ≡ path H m D
  path_from_right h high s t = rw (s, t, left, right) (sym (path-right H m k D h (sym e) high))

  pub subproof_from_left : (b : Bool) → 0 < m → m < length D → m ≤ k → S ≡ subproof H m L b → r ≡ mth H R → S ++ r ∷ [] ≡ subproof H m D b
  subproof_from_left b z l low s t = rw (s, t, left, right) (sym (subproof-left H m k D b z l (sym e) low))

  pub subproof_from_right : (b : Bool) → 0 < m → m < length D → k < m → S ≡ subproof H (m - k) R false → r ≡ mth H L → S ++ r ∷ [] ≡ subproof H m D b
  subproof_from_right b z l high s t = rw (s, t, left, right) (sym (subproof-right H m k D b z l (sym e) high))
