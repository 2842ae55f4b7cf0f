-- MTH of a list that is given by its leaves, each seen through a function f.
use Rattle.std.proofs.Common.{refl, ◌≡◌, ℕ, ◌-◌, ◌<◌, sym, ◌∙◌, ap, arith, List, [], ◌∷◌, length, take, drop, get_or, map}
use Rattle.std.proofs.lemmas.List.{length-map, take-map, drop-map, take_rest}
use Rattle.ct_tree.proofs.Mth.{mth-nil, mth-one, mth-split_at}
use Rattle.ct_tree.specs.Tree.{split, hash_leaf, hash_node, mth_of_leaves}

module _ (H : List ℕ → List ℕ) {V : Type 0} (f : V → List ℕ) where
  pub leaves_nil : (xs : List V) → length xs ≡ 0 → mth_of_leaves H (map f xs) ≡ H []
  leaves_nil [] e = mth-nil H
  leaves_nil (x ∷ xs) e = absurd (omega arith)

  pub leaves_single : (xs : List V) (d : V) → length xs ≡ 1 → mth_of_leaves H (map f xs) ≡ hash_leaf H (f (get_or xs 0 d))
  leaves_single [] d e = absurd (omega arith)
  leaves_single (x ∷ []) d e = mth-one H (hash_leaf H (f x))
  leaves_single (x ∷ y ∷ xs) d e = absurd (omega arith)

  pub leaves_halves : (xs : List V) (k : ℕ) → 1 < length xs → split (length xs) ≡ k
      → mth_of_leaves H (map f xs) ≡ hash_node H (mth_of_leaves H (map f (take k xs))) (mth_of_leaves H (map f (drop k xs)))
  leaves_halves xs k l e =
      let n : length (map (hash_leaf H) (map f xs)) ≡ length xs = length-map (map f xs) (hash_leaf H) ∙ length-map xs f in
      mth-split_at H (map (hash_leaf H) (map f xs)) k (omega arith) (ap split n ∙ e)
      ∙ rw (take-map (hash_leaf H) k (map f xs), drop-map (hash_leaf H) k (map f xs), take-map f k xs, drop-map f k xs) refl

  -- a root computed from the roots of the two parts
  pub leaves_joined : (xs : List V) (k : ℕ) (l r v : List ℕ) → 1 < length xs → k ≡ split (length xs)
      → l ≡ mth_of_leaves H (map f (take k xs)) → r ≡ mth_of_leaves H (map f (take (length xs - k) (drop k xs))) → v ≡ hash_node H l r
      → v ≡ mth_of_leaves H (map f xs)
  leaves_joined xs k l r v h e a b c =
      c ∙ rw (a, b) (ap (λ q. hash_node H (mth_of_leaves H (map f (take k xs))) (mth_of_leaves H (map f q))) (take_rest xs k))
      ∙ sym (leaves_halves xs k h (sym e))
