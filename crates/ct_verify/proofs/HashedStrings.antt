-- The strings that are hashed, one step down from the root.
use Rattle.std.proofs.Common.{◌≡◌, ℕ, ◌-◌, ◌<◌, ◌≤◌, refl, Bool, false, List, ◌∷◌, ◌++◌, Some}
use Rattle.std.proofs.lemmas.Bool.{lt-ltb, le-ltb}
use Rattle.ct_tree.specs.Tree.{split}
use Rattle.ct_verify.specs.Rebuild.{rebuild_down, both_down}
use Rattle.ct_verify.specs.Hashed.{path_strings_down, proof_strings_down}

module _ (H : List ℕ → List ℕ) where
  pub strings_left : (m n k : ℕ) (h s r : List ℕ) (q : List (List ℕ)) → split n ≡ k → m < k → rebuild_down H m k h q ≡ Some r
      → path_strings_down H m n h (s ∷ q) ≡ (1 ∷ r ++ s) ∷ path_strings_down H m k h q
  unfolding path_strings_down
  strings_left m n k h s r q e low f = rw (e, lt-ltb m k low, f) refl

  pub strings_right : (m n k : ℕ) (h s r : List ℕ) (q : List (List ℕ)) → split n ≡ k → k ≤ m → rebuild_down H (m - k) (n - k) h q ≡ Some r
      → path_strings_down H m n h (s ∷ q) ≡ (1 ∷ s ++ r) ∷ path_strings_down H (m - k) (n - k) h q
  unfolding path_strings_down
  strings_right m n k h s r q e high f = rw (e, le-ltb m k high, f) refl

  pub both_strings_left : (m n k : ℕ) (b : Bool) (r s x y : List ℕ) (q : List (List ℕ)) → m < n → split n ≡ k → m ≤ k → both_down H m k b r q ≡ Some (x, y)
      → proof_strings_down H m n b r (s ∷ q) ≡ (1 ∷ y ++ s) ∷ proof_strings_down H m k b r q
  unfolding proof_strings_down
  both_strings_left m n k b r s x y q l e low f = rw (lt-ltb m n l, e, le-ltb k m low, f) refl

  pub both_strings_right : (m n k : ℕ) (b : Bool) (r s x y : List ℕ) (q : List (List ℕ)) → m < n → split n ≡ k → k < m
      → both_down H (m - k) (n - k) false r q ≡ Some (x, y)
      → proof_strings_down H m n b r (s ∷ q) ≡ (1 ∷ s ++ x) ∷ (1 ∷ s ++ y) ∷ proof_strings_down H (m - k) (n - k) false r q
  unfolding proof_strings_down
  both_strings_right m n k b r s x y q l e high f = rw (lt-ltb m n l, e, lt-ltb k m high, f) refl
