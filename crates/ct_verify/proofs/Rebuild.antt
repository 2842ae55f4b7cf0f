-- Rebuilding a root, one level up from the leaves.
use Rattle.std.proofs.Common.{◌≡◌, ℕ, ◌+◌, ◌-◌, ◌/◌, ◌%◌, ◌<◌, ◌≤◌, refl, ◌∙◌, List, [], ◌∷◌, ◌++◌, reverse, Some, None}
use Rattle.std.specs.Option.{option_map}
use Rattle.std.proofs.lemmas.Bool.{lt-ltb, le-ltb}
use Rattle.ct_tree.proofs.Split.{up}
use Rattle.ct_tree.specs.Tree.{split, hash_node}
use Rattle.ct_verify.proofs.Along.{along-up_odd, along-up_even, along-up_lone, along-one, along-end}
use Rattle.ct_verify.proofs.Options.{reverse_first}
use Rattle.ct_verify.specs.Climb.{along}
use Rattle.ct_verify.specs.Rebuild.{rebuild_down, rebuild}

abbrev pub join_left : (List ℕ → List ℕ) → List ℕ → List ℕ → List ℕ
join_left H x s = hash_node H x s

abbrev pub join_right : (List ℕ → List ℕ) → List ℕ → List ℕ → List ℕ
join_right H x s = hash_node H s x

rebuild_along : (H : List ℕ → List ℕ) (m n : ℕ) (h : List ℕ) (q : List (List ℕ)) → rebuild_down H m n h q ≡ along (join_left H) (join_right H) m n h q
unfolding rebuild_down along
rebuild_along H m n h [] = refl
rebuild_along H m n h (s ∷ q) = rw (rebuild_along H m (split n) h q, rebuild_along H (m - split n) (n - split n) h q) refl

pub rebuild-end : (H : List ℕ → List ℕ) (m n : ℕ) (h : List ℕ) → 1 < n → rebuild H m n h [] ≡ None
unfolding rebuild
rebuild-end H m n h l = rebuild_along H m n h [] ∙ along-end (join_left H) (join_right H) m n h l

pub rebuild-one : (H : List ℕ → List ℕ) (m : ℕ) (h : List ℕ) → rebuild H m 1 h [] ≡ Some h
unfolding rebuild
rebuild-one H m h = rebuild_along H m 1 h [] ∙ along-one (join_left H) (join_right H) m h

pub rebuild-odd : (H : List ℕ → List ℕ) (m n : ℕ) (h c : List ℕ) (p : List (List ℕ)) → m % 2 ≡ 1 → m < n
    → rebuild H m n h (c ∷ p) ≡ rebuild H (m / 2) (up n) (hash_node H c h) p
unfolding rebuild
rebuild-odd H m n h c p o l =
    rw (reverse_first c p, rebuild_along H m n h (reverse p ++ c ∷ []), rebuild_along H (m / 2) (up n) (hash_node H c h) (reverse p))
    (along-up_odd (join_left H) (join_right H) c h (reverse p) m n o l)

pub rebuild-even : (H : List ℕ → List ℕ) (m n : ℕ) (h c : List ℕ) (p : List (List ℕ)) → m % 2 ≡ 0 → m + 1 < n
    → rebuild H m n h (c ∷ p) ≡ rebuild H (m / 2) (up n) (hash_node H h c) p
unfolding rebuild
rebuild-even H m n h c p o l =
    rw (reverse_first c p, rebuild_along H m n h (reverse p ++ c ∷ []), rebuild_along H (m / 2) (up n) (hash_node H h c) (reverse p))
    (along-up_even (join_left H) (join_right H) c h (reverse p) m n o l)

pub rebuild-lone : (H : List ℕ → List ℕ) (m n : ℕ) (h : List ℕ) (p : List (List ℕ)) → m % 2 ≡ 0 → m + 1 ≡ n → 1 < n
    → rebuild H m n h p ≡ rebuild H (m / 2) (up n) h p
unfolding rebuild
rebuild-lone H m n h p o l g =
    rw (rebuild_along H m n h (reverse p), rebuild_along H (m / 2) (up n) h (reverse p))
    (along-up_lone (join_left H) (join_right H) h (reverse p) m n o l g)

-- ---- one step down from the root
module _ (H : List ℕ → List ℕ) where
  pub rebuild_left : (m n k : ℕ) (h s : List ℕ) (q : List (List ℕ)) → 1 < n → split n ≡ k → m < k
      → rebuild_down H m n h (s ∷ q) ≡ option_map (λ r. hash_node H r s) (rebuild_down H m k h q)
  unfolding rebuild_down
  rebuild_left m n k h s q l e low = rw (lt-ltb 1 n l, e, lt-ltb m k low) refl

  pub rebuild_right : (m n k : ℕ) (h s : List ℕ) (q : List (List ℕ)) → 1 < n → split n ≡ k → k ≤ m
      → rebuild_down H m n h (s ∷ q) ≡ option_map (λ r. hash_node H s r) (rebuild_down H (m - k) (n - k) h q)
  unfolding rebuild_down
  rebuild_right m n k h s q l e high = rw (lt-ltb 1 n l, e, le-ltb m k high) refl

  pub rebuild_past : (m n : ℕ) (h s : List ℕ) (q : List (List ℕ)) → n ≤ 1 → rebuild_down H m n h (s ∷ q) ≡ None
  unfolding rebuild_down
  rebuild_past m n h s q l = rw (le-ltb 1 n l) refl

  pub rebuild_short : (m n : ℕ) (h : List ℕ) → 1 < n → rebuild_down H m n h [] ≡ None
  unfolding rebuild_down
  rebuild_short m n h l = rw (lt-ltb 1 n l) refl

  pub rebuild_leaf : (m n : ℕ) (h : List ℕ) → n ≤ 1 → rebuild_down H m n h [] ≡ Some h
  unfolding rebuild_down
  rebuild_leaf m n h l = rw (le-ltb 1 n l) refl
