-- One step down from the root of a tree, for the two hashes that a proof yields.
use Rattle.std.proofs.Common.{◌≡◌, ℕ, ◌-◌, ◌<◌, ◌≤◌, cond, Bool, true, false, refl, arith, List, [], ◌∷◌, ◌++◌, Some, None, reverse}
use Rattle.std.specs.Option.{option_map}
use Rattle.std.proofs.lemmas.Bool.{lt-ltb, le-ltb}
use Rattle.ct_tree.specs.Tree.{split, hash_node}
use Rattle.ct_verify.specs.Climb.{pair_left, pair_right}
use Rattle.ct_verify.specs.Rebuild.{same_pair}
use Rattle.ct_subtrees.specs.Subtrees.{is_whole}
use Rattle.ct_verify.proofs.Options.{reverse_last}
use Rattle.ct_subtrees.specs.Roots.{subtree_down, subtree_roots}

-- an element at the left of the part with the subtree belongs only to the root
abbrev pub pair_beyond : (List ℕ → List ℕ) → List ℕ × List ℕ → List ℕ → List ℕ × List ℕ
pair_beyond H z c = (z.0, hash_node H c z.1)

module _ (H : List ℕ → List ℕ) where
  pub down-end : (s e n : ℕ) (b : Bool) (r : List ℕ) → is_whole s e n ≡ false → subtree_down H s e n b r [] ≡ None
  unfolding subtree_down
  down-end s e n b r w = rw w refl

  pub down-end_whole : (s e n : ℕ) (b : Bool) (r : List ℕ) → is_whole s e n ≡ true → subtree_down H s e n b r [] ≡ cond b (Some (r, r)) None
  unfolding subtree_down
  down-end_whole s e n b r w = rw w refl

  pub down-whole : (s e n : ℕ) (b : Bool) (r c : List ℕ) (q : List (List ℕ)) → is_whole s e n ≡ true
      → subtree_down H s e n b r (c ∷ q) ≡ cond b None (same_pair c q)
  unfolding subtree_down
  down-whole s e n b r c q w = rw w refl

  pub down-left : (s e n k : ℕ) (b : Bool) (r c : List ℕ) (q : List (List ℕ)) → is_whole s e n ≡ false → split n ≡ k → e ≤ k
      → subtree_down H s e n b r (c ∷ q) ≡ option_map (λ z. pair_left H z c) (subtree_down H s e k b r q)
  unfolding subtree_down
  down-left s e n k b r c q w f l = rw (w, f, le-ltb k e l) refl

  pub down-right : (s e n k : ℕ) (b : Bool) (r c : List ℕ) (q : List (List ℕ)) → is_whole s e n ≡ false → split n ≡ k → k ≤ s → s < e
      → subtree_down H s e n b r (c ∷ q) ≡ option_map (λ z. pair_beyond H z c) (subtree_down H (s - k) (e - k) (n - k) b r q)
  unfolding subtree_down
  down-right s e n k b r c q w f l g =
      let i : k < e = omega arith in
      rw (w, f, lt-ltb k e i, le-ltb s k l) refl

  pub down-both : (s e n k : ℕ) (b : Bool) (r c : List ℕ) (q : List (List ℕ)) → is_whole s e n ≡ false → split n ≡ k → s < k → k < e
      → subtree_down H s e n b r (c ∷ q) ≡ option_map (λ z. pair_right H z c) (subtree_down H 0 (e - k) (n - k) false r q)
  unfolding subtree_down
  down-both s e n k b r c q w f l g = rw (w, f, lt-ltb k e g, lt-ltb s k l) refl

-- ---- the same for a proof in its own order
module _ (H : List ℕ → List ℕ) where
  pub roots-known : (s e n : ℕ) (r : List ℕ) → is_whole s e n ≡ true → subtree_roots H s e n true r [] ≡ Some (r, r)
  unfolding subtree_roots
  roots-known s e n r w = down-end_whole H s e n true r w

  pub roots-given : (s e n : ℕ) (r c : List ℕ) → is_whole s e n ≡ true → subtree_roots H s e n false r (c ∷ []) ≡ Some (c, c)
  unfolding subtree_roots
  roots-given s e n r c w = down-whole H s e n false r c [] w

  pub roots-left : (s e n k : ℕ) (b : Bool) (r c : List ℕ) (q : List (List ℕ)) → is_whole s e n ≡ false → split n ≡ k → e ≤ k
      → subtree_roots H s e n b r (q ++ c ∷ []) ≡ option_map (λ z. pair_left H z c) (subtree_roots H s e k b r q)
  unfolding subtree_roots
  roots-left s e n k b r c q w f l = rw (reverse_last q c) (down-left H s e n k b r c (reverse q) w f l)

  pub roots-right : (s e n k : ℕ) (b : Bool) (r c : List ℕ) (q : List (List ℕ)) → is_whole s e n ≡ false → split n ≡ k → k ≤ s → s < e
      → subtree_roots H s e n b r (q ++ c ∷ []) ≡ option_map (λ z. pair_beyond H z c) (subtree_roots H (s - k) (e - k) (n - k) b r q)
  unfolding subtree_roots
  roots-right s e n k b r c q w f l g = rw (reverse_last q c) (down-right H s e n k b r c (reverse q) w f l g)

  pub roots-both : (s e n k : ℕ) (b : Bool) (r c : List ℕ) (q : List (List ℕ)) → is_whole s e n ≡ false → split n ≡ k → s < k → k < e
      → subtree_roots H s e n b r (q ++ c ∷ []) ≡ option_map (λ z. pair_right H z c) (subtree_roots H 0 (e - k) (n - k) false r q)
  unfolding subtree_roots
  roots-both s e n k b r c q w f l g = rw (reverse_last q c) (down-both H s e n k b r c (reverse q) w f l g)

  -- the known hash does not matter if it is not known
  down_any : (r t : List ℕ) (q : List (List ℕ)) (s e n : ℕ) → subtree_down H s e n false r q ≡ subtree_down H s e n false t q
  unfolding subtree_down
  down_any r t [] s e n = refl
  down_any r t (c ∷ q) s e n =
      rw (down_any r t q 0 (e - split n) (n - split n), down_any r t q (s - split n) (e - split n) (n - split n), down_any r t q s e (split n)) refl

  pub any_known : (s e n : ℕ) (r t : List ℕ) (q : List (List ℕ)) → subtree_roots H s e n false r q ≡ subtree_roots H s e n false t q
  unfolding subtree_roots
  any_known s e n r t q = down_any r t (reverse q) s e n
