-- The strings that are hashed when a subtree's consistency proof is checked, one step down from the root.
use Rattle.std.proofs.Common.{◌≡◌, ℕ, ◌-◌, ◌<◌, ◌≤◌, arith, refl, Bool, false, List, ◌∷◌, ◌++◌, Some}
use Rattle.std.proofs.lemmas.Bool.{lt-ltb, le-ltb}
use Rattle.ct_tree.specs.Tree.{split}
use Rattle.ct_subtrees.specs.Hashed.{subtree_strings_down}
use Rattle.ct_subtrees.specs.Roots.{subtree_down}
use Rattle.ct_subtrees.specs.Subtrees.{is_whole}

module _ (H : List ℕ → List ℕ) where
  pub strings_left : (s e n k : ℕ) (b : Bool) (r c x y : List ℕ) (q : List (List ℕ)) → is_whole s e n ≡ false → split n ≡ k → e ≤ k
      → subtree_down H s e k b r q ≡ Some (x, y) → subtree_strings_down H s e n b r (c ∷ q) ≡ (1 ∷ y ++ c) ∷ subtree_strings_down H s e k b r q
  unfolding subtree_strings_down
  strings_left s e n k b r c x y q w f low d = rw (w, f, le-ltb k e low, d) refl

  pub strings_right : (s e n k : ℕ) (b : Bool) (r c x y : List ℕ) (q : List (List ℕ)) → is_whole s e n ≡ false → split n ≡ k → k ≤ s → s < e
      → subtree_down H (s - k) (e - k) (n - k) b r q ≡ Some (x, y)
      → subtree_strings_down H s e n b r (c ∷ q) ≡ (1 ∷ c ++ y) ∷ subtree_strings_down H (s - k) (e - k) (n - k) b r q
  unfolding subtree_strings_down
  strings_right s e n k b r c x y q w f high l d =
      let over : k < e = omega arith in
      rw (w, f, lt-ltb k e over, le-ltb s k high, d) refl

  pub strings_both : (s e n k : ℕ) (b : Bool) (r c x y : List ℕ) (q : List (List ℕ)) → is_whole s e n ≡ false → split n ≡ k → s < k → k < e
      → subtree_down H 0 (e - k) (n - k) false r q ≡ Some (x, y)
      → subtree_strings_down H s e n b r (c ∷ q) ≡ (1 ∷ c ++ x) ∷ (1 ∷ c ++ y) ∷ subtree_strings_down H 0 (e - k) (n - k) false r q
  unfolding subtree_strings_down
  strings_both s e n k b r c x y q w f before over d = rw (w, f, lt-ltb k e over, lt-ltb s k before, d) refl
