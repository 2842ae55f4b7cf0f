-- The search from the root down for the first node in which a proof of a subtree and a list of leaf hashes differ.
use Rattle.std.proofs.Common.{◌≡◌, ℕ, ◌-◌, ◌<◌, ◌≤◌, refl, sym, ◌∙◌, ap, arith, subst, cond, Bool, true, false, List, [], ◌∷◌, ◌++◌, length, take, drop, reverse, Option, Some, None}
use Rattle.std.specs.Prelude.{Contains, Result, Ok, Err, MatchResult}
use Rattle.std.proofs.lemmas.List.{take_all, reverse-reverse}
use Rattle.std.proofs.lemmas.List.Elements.{All-head, All-contains_itself, Contains-append_right}
use Rattle.ct_tree.proofs.Mth.{mth-split_at}
use Rattle.ct_tree.proofs.Split.{IsPower, split_is, split_half}
use Rattle.ct_tree.specs.Tree.{split, hash_node, mth}
use Rattle.ct_verify.proofs.Options.{none_some, same_some, mapped, reverse_last}
use Rattle.ct_verify.proofs.RebuildLaws.{first_root}
use Rattle.ct_verify.specs.Climb.{pair_left, pair_right}
use Rattle.ct_subtrees.specs.Explained.{IsJoinedIn, IsSubproofOf, AreCollision, SearchResult, IsHalf, node_string}
use Rattle.ct_subtrees.specs.Explained.IsJoinedIn.{root, in_left, in_right}
use Rattle.ct_subtrees.specs.Explained.IsHalf.{left, right, both}
use Rattle.ct_subtrees.specs.Hashed.{subtree_strings}
use Rattle.ct_subtrees.specs.Roots.{subtree_down, subtree_roots}
use Rattle.ct_subtrees.specs.Subtrees.{IsSubtree, slice, subtree_length, is_whole}
use Rattle.ct_subtrees.specs.Walk.{HasOtherLength}
use Rattle.ct_subtrees.specs.declared.explained.Difference.{Difference}
use Rattle.ct_subtrees.specs.declared.fault.SubtreeFault.{SubtreeFault}
use Rattle.ct_subtrees.specs.declared.fault.SubtreeFault.TheVariants.{NotASubtree, BeyondTree, IndexOutOfRange, PathTooLong, PathTooShort}
use Rattle.ct_subtrees.specs.declared.fault.SubtreeFault.TheVariants.{FirstMismatch, RootMismatch}
use Rattle.ct_subtrees.proofs.Defined.{rebuilt_length}
use Rattle.ct_subtrees.proofs.Down.{pair_beyond, down-end_whole, down-whole, roots-left, roots-right, roots-both}
use Rattle.ct_subtrees.proofs.HashedStrings.{strings_left, strings_right, strings_both}
use Rattle.ct_subtrees.proofs.OfList.{one_pair}
use Rattle.ct_subtrees.proofs.Rebuilds.{slice_left, slice_right, slice_first}
use Rattle.ct_subtrees.proofs.Steps.{subtree_short}
use Rattle.ct_subtrees.proofs.Subproof.{subtree-whole, subtree-left, subtree-right, subtree-both}
use Rattle.ct_subtrees.proofs.Whole.{whole_is, subtree_right, subtree_both, subtree_first, first_ends}

-- a proof of the right length is not refused because of its length
not_other : (wanted given : ℕ) (fault : SubtreeFault) → given ≡ wanted → HasOtherLength wanted given fault → ⊥
not_other a b PathTooLong e h = omega arith
not_other a b PathTooShort e h = omega arith
not_other a b NotASubtree e h = h
not_other a b BeyondTree e h = h
not_other a b IndexOutOfRange e h = h
not_other a b FirstMismatch e h = h
not_other a b RootMismatch e h = h

module _ (H : List ℕ → List ℕ) where
  -- ---- the whole tree
  pub whole_result : (s e : ℕ) (b : Bool) (r x : List ℕ) (D p : List (List ℕ)) → s < e → s ≡ 0 → e ≡ length D
      → subtree_roots H s e (length D) b r p ≡ Some (x, mth H D) → IsSubproofOf H s e b x D p
  unfolding subtree_roots
  whole_result s e b r x D p l z f d =
      let w = whole_is s e (length D) z (omega arith) in
      let i : slice s e D ≡ D = slice_first s e D z ∙ take_all e D (omega arith) in
      let own = by_known (reverse p) b d w in
      (own.0 ∙ ap (mth H) (sym i), sym (reverse-reverse p) ∙ ap reverse own.1 ∙ same b ∙ sym (subtree-whole H s e D b l z f))
    where
      same : (b : Bool) → reverse (cond b [] (mth H D ∷ [])) ≡ cond b [] (mth H D ∷ [])
      same true = refl
      same false = refl

      by_known : (q : List (List ℕ)) (b : Bool) → subtree_down H s e (length D) b r q ≡ Some (x, mth H D)
          → is_whole s e (length D) ≡ true → (x ≡ mth H D) × (q ≡ cond b [] (mth H D ∷ []))
      by_known [] true d w =
          let y : (r, r) ≡ (x, mth H D) = same_some (r, r) (x, mth H D) (sym (down-end_whole H s e (length D) true r w) ∙ d) in
          (sym (ap (λ (v : List ℕ × List ℕ). v.0) y) ∙ ap (λ (v : List ℕ × List ℕ). v.1) y, refl)
      by_known [] false d w = absurd (none_some (x, mth H D) (sym (down-end_whole H s e (length D) false r w) ∙ d))
      by_known (c ∷ q) true d w = absurd (none_some (x, mth H D) (sym (down-whole H s e (length D) true r c q w) ∙ d))
      by_known (c ∷ q) false d w =
          let y = one_pair H c x (mth H D) q (sym (down-whole H s e (length D) false r c q w) ∙ d) in
          (y.0 ∙ sym y.1, rw (y.2, sym y.1) refl)

  -- ---- a proof without elements
  pub not_empty : (s e n : ℕ) (b : Bool) (r : List ℕ) (z : List ℕ × List ℕ) (p : List (List ℕ)) → s < e → e ≤ n → is_whole s e n ≡ false → length p ≡ 0
      → subtree_roots H s e n b r p ≡ Some z → ⊥
  not_empty s e n b r z p l i w f d = omega (arith, rebuilt_length H s e n b r p z l i d, subtree_short s e n b (length p) l i w f)

  -- ---- one step down
  -- the two hashes of the part, from which those of the whole are made
  abbrev Below : ℕ → ℕ → ℕ → Bool → List ℕ → List ℕ → List (List ℕ) → List ℕ → Bool → Type 0
  Below s e n b r c q y side =
      (u v : List ℕ) × (subtree_roots H s e n b r q ≡ Some (u, v)) × (y ≡ cond side (hash_node H v c) (hash_node H c v))

  pub below : (s e n k : ℕ) (b : Bool) (s' e' n' : ℕ) (b' side : Bool) (r c x y : List ℕ) (p q : List (List ℕ)) → IsHalf s e n k b s' e' n' b' side
      → s < e → k ≡ split n → is_whole s e n ≡ false → p ≡ q ++ c ∷ [] → subtree_roots H s e n b r p ≡ Some (x, y) → Below s' e' n' b' r c q y side
  below s e n k b s' e' n' b' side r c x y p q (left low) l f w i d =
      let u = mapped (λ z. pair_left H z c) (subtree_roots H s e k b r q) (x, y)
      (sym (roots-left H s e n k b r c q w (sym f) low) ∙ ap (subtree_roots H s e n b r) (sym i) ∙ d) in
      (u.0.0, u.0.1, u.1, sym (ap (λ (z : List ℕ × List ℕ). z.1) u.2))
  below s e n k b s' e' n' b' side r c x y p q (right high) l f w i d =
      let u = mapped (λ z. pair_beyond H z c) (subtree_roots H (s - k) (e - k) (n - k) b r q) (x, y)
      (sym (roots-right H s e n k b r c q w (sym f) high l) ∙ ap (subtree_roots H s e n b r) (sym i) ∙ d) in
      (u.0.0, u.0.1, u.1, sym (ap (λ (z : List ℕ × List ℕ). z.1) u.2))
  below s e n k b s' e' n' b' side r c x y p q (both before over) l f w i d =
      let u = mapped (λ z. pair_right H z c) (subtree_roots H 0 (e - k) (n - k) false r q) (x, y)
      (sym (roots-both H s e n k b r c q w (sym f) before over) ∙ ap (subtree_roots H s e n b r) (sym i) ∙ d) in
      (u.0.0, u.0.1, u.1, sym (ap (λ (z : List ℕ × List ℕ). z.1) u.2))

  -- the part is rebuilt
  pub part_rebuilt : {T : Type 0} (s e n : ℕ) (b : Bool) (r c y : List ℕ) (q : List (List ℕ)) (side : Bool) (P : T → Type 0) (o : Result T SubtreeFault)
      → s < e → e ≤ n → Below s e n b r c q y side → MatchResult o P (HasOtherLength (subtree_length s e n b) (length q)) → ((z : T) → o ≡ Ok z → ⊥) → ⊥
  part_rebuilt s e n b r c y q side P (Ok z) l i w h none = none z refl
  part_rebuilt s e n b r c y q side P (Err f) l i w h none =
      not_other (subtree_length s e n b) (length q) f (rebuilt_length H s e n b r q (w.0, w.1) l i w.2) h

  -- ---- the strings
  own_left : (s e n k : ℕ) (b : Bool) (r c x y : List ℕ) (q : List (List ℕ)) → is_whole s e n ≡ false → split n ≡ k → e ≤ k
      → subtree_roots H s e k b r q ≡ Some (x, y) → subtree_strings H s e n b r (q ++ c ∷ []) ≡ (1 ∷ y ++ c) ∷ subtree_strings H s e k b r q
  unfolding subtree_strings subtree_roots
  own_left s e n k b r c x y q w f low d = rw (reverse_last q c) (strings_left H s e n k b r c x y (reverse q) w f low d)

  own_right : (s e n k : ℕ) (b : Bool) (r c x y : List ℕ) (q : List (List ℕ)) → is_whole s e n ≡ false → split n ≡ k → k ≤ s → s < e
      → subtree_roots H (s - k) (e - k) (n - k) b r q ≡ Some (x, y)
      → subtree_strings H s e n b r (q ++ c ∷ []) ≡ (1 ∷ c ++ y) ∷ subtree_strings H (s - k) (e - k) (n - k) b r q
  unfolding subtree_strings subtree_roots
  own_right s e n k b r c x y q w f high l d = rw (reverse_last q c) (strings_right H s e n k b r c x y (reverse q) w f high l d)

  own_both : (s e n k : ℕ) (b : Bool) (r c x y : List ℕ) (q : List (List ℕ)) → is_whole s e n ≡ false → split n ≡ k → s < k → k < e
      → subtree_roots H 0 (e - k) (n - k) false r q ≡ Some (x, y)
      → subtree_strings H s e n b r (q ++ c ∷ []) ≡ (1 ∷ c ++ x) ∷ (1 ∷ c ++ y) ∷ subtree_strings H 0 (e - k) (n - k) false r q
  unfolding subtree_strings subtree_roots
  own_both s e n k b r c x y q w f before over d = rw (reverse_last q c) (strings_both H s e n k b r c x y (reverse q) w f before over d)

  first_in : (t : List ℕ) (ts : List (List ℕ)) → Contains (t ∷ ts) t
  first_in t ts = All-head (Contains (t ∷ ts)) t ts (All-contains_itself (t ∷ ts))

  later_in : (t u : List ℕ) (ts : List (List ℕ)) → Contains ts u → Contains (t ∷ ts) u
  later_in t u ts c = Contains-append_right (t ∷ []) ts u c

  -- the strings of the whole are the node's own ones and those of the part
  pub own_string : (s e n k : ℕ) (b : Bool) (s' e' n' : ℕ) (b' side : Bool) (r c x y : List ℕ) (p q : List (List ℕ)) → IsHalf s e n k b s' e' n' b' side
      → s < e → k ≡ split n → is_whole s e n ≡ false → p ≡ q ++ c ∷ [] → subtree_roots H s' e' n' b' r q ≡ Some (x, y)
      → Contains (subtree_strings H s e n b r p) (1 ∷ cond side y c ++ cond side c y)
  own_string s e n k b s' e' n' b' side r c x y p q (left low) l f w i d =
      rw (i, own_left s e n k b r c x y q w (sym f) low d) (first_in (1 ∷ y ++ c) (subtree_strings H s e k b r q))
  own_string s e n k b s' e' n' b' side r c x y p q (right high) l f w i d =
      rw (i, own_right s e n k b r c x y q w (sym f) high l d) (first_in (1 ∷ c ++ y) (subtree_strings H (s - k) (e - k) (n - k) b r q))
  own_string s e n k b s' e' n' b' side r c x y p q (both before over) l f w i d =
      rw (i, own_both s e n k b r c x y q w (sym f) before over d)
      (later_in (1 ∷ c ++ x) (1 ∷ c ++ y) ((1 ∷ c ++ y) ∷ subtree_strings H 0 (e - k) (n - k) false r q)
      (first_in (1 ∷ c ++ y) (subtree_strings H 0 (e - k) (n - k) false r q)))

  string_below : (s e n k : ℕ) (b : Bool) (s' e' n' : ℕ) (b' side : Bool) (r c x y t : List ℕ) (p q : List (List ℕ)) → IsHalf s e n k b s' e' n' b' side
      → s < e → k ≡ split n → is_whole s e n ≡ false → p ≡ q ++ c ∷ [] → subtree_roots H s' e' n' b' r q ≡ Some (x, y)
      → Contains (subtree_strings H s' e' n' b' r q) t → Contains (subtree_strings H s e n b r p) t
  string_below s e n k b s' e' n' b' side r c x y t p q (left low) l f w i d h =
      rw (i, own_left s e n k b r c x y q w (sym f) low d) (later_in (1 ∷ y ++ c) t (subtree_strings H s e k b r q) h)
  string_below s e n k b s' e' n' b' side r c x y t p q (right high) l f w i d h =
      rw (i, own_right s e n k b r c x y q w (sym f) high l d) (later_in (1 ∷ c ++ y) t (subtree_strings H (s - k) (e - k) (n - k) b r q) h)
  string_below s e n k b s' e' n' b' side r c x y t p q (both before over) l f w i d h =
      rw (i, own_both s e n k b r c x y q w (sym f) before over d)
      (later_in (1 ∷ c ++ x) t ((1 ∷ c ++ y) ∷ subtree_strings H 0 (e - k) (n - k) false r q)
      (later_in (1 ∷ c ++ y) t (subtree_strings H 0 (e - k) (n - k) false r q) h))

  -- ---- the node's strings differ
  pub differ_here : (s e k : ℕ) (b : Bool) (s' e' n' : ℕ) (b' side : Bool) (r c x y v A B : List ℕ) (D p q : List (List ℕ))
      → IsHalf s e (length D) k b s' e' n' b' side
      → s < e → 1 < length D → k ≡ split (length D) → is_whole s e (length D) ≡ false → p ≡ q ++ c ∷ [] → subtree_roots H s' e' n' b' r q ≡ Some (x, v)
      → subtree_roots H s e (length D) b r p ≡ Some (y, mth H D)
      → A ≡ cond side v c → B ≡ cond side c v → (A' B' : List ℕ) → A' ≡ mth H (take k D) → B' ≡ mth H (drop k D)
      → ¬ (1 ∷ A ++ B ≡ 1 ∷ A' ++ B') → AreCollision H s e b r D p (1 ∷ A ++ B) (1 ∷ A' ++ B')
  differ_here s e k b s' e' n' b' side r c x y v A B D p q h l m f w i d up ia ib A' B' ja jb apart =
      let u = below s e (length D) k b s' e' n' b' side r c y (mth H D) p q h l f w i up in
      let same : (u.0, u.1) ≡ (x, v) = same_some (u.0, u.1) (x, v) (sym u.2 ∙ d) in
      let vs : u.1 ≡ v = ap (λ (z : List ℕ × List ℕ). z.1) same in
      let own : hash_node H A B ≡ mth H D = rw (ia, ib) (by_side side v c) ∙ ap (λ z. cond side (hash_node H z c) (hash_node H c z)) (sym vs) ∙ sym u.3 in (
        rw (ia, ib) (own_string s e (length D) k b s' e' n' b' side r c x v p q h l f w i d),
        rw (ja, jb) (root D k m f),
        (apart, own ∙ mth-split_at H D k m (sym f) ∙ rw (ja, jb) refl),
      )
    where
      by_side : (side : Bool) (v c : List ℕ) → hash_node H (cond side v c) (cond side c v) ≡ cond side (hash_node H v c) (hash_node H c v)
      by_side true v c = refl
      by_side false v c = refl

  -- ---- the node's strings are the same
  joined_below : (k : ℕ) (side : Bool) (D : List (List ℕ)) (t : List ℕ) → 1 < length D → k ≡ split (length D)
      → IsJoinedIn H (cond side (take k D) (drop k D)) t → IsJoinedIn H D t
  joined_below k true D t m f h = in_left D k t m f h
  joined_below k false D t m f h = in_right D k t m f h

  proof_above : (D : List (List ℕ)) (s e k : ℕ) (b : Bool) (s' e' n' : ℕ) (b' side : Bool) (r c x x' v : List ℕ) (p q : List (List ℕ))
      → IsHalf s e (length D) k b s' e' n' b' side → IsSubtree s e
      → e ≤ length D → 1 < length D → k ≡ split (length D) → is_whole s e (length D) ≡ false → p ≡ q ++ c ∷ []
      → subtree_roots H s' e' n' b' r q ≡ Some (x', v) → subtree_roots H s e (length D) b r p ≡ Some (x, mth H D)
      → c ≡ cond side (mth H (drop k D)) (mth H (take k D)) → IsSubproofOf H s' e' b' x' (cond side (take k D) (drop k D)) q
      → IsSubproofOf H s e b x D p
  proof_above D s e k b s' e' n' b' side r c x x' v p q (left low) t i m f w j d up o g =
      let z = sym (roots-left H s e (length D) k b r c q w (sym f) low ∙ rw d refl) ∙ ap (subtree_roots H s e (length D) b r) (sym j) ∙ up in
      let first : x' ≡ x = ap (λ (v : List ℕ × List ℕ). v.0) (same_some (x', hash_node H v c) (x, mth H D) z) in
      (sym first ∙ g.0 ∙ ap (mth H) (slice_left s e k D low), j ∙ rw (g.1, o) refl ∙ sym (subtree-left H s e k D b t.0 i m w (sym f) low))
  proof_above D s e k b s' e' n' b' side r c x x' v p q (right high) t i m f w j d up o g =
      let z = sym (roots-right H s e (length D) k b r c q w (sym f) high t.0 ∙ rw d refl) ∙ ap (subtree_roots H s e (length D) b r) (sym j) ∙ up in
      let first : x' ≡ x = ap (λ (v : List ℕ × List ℕ). v.0) (same_some (x', hash_node H c v) (x, mth H D) z) in
      (sym first ∙ g.0 ∙ ap (mth H) (slice_right s e k D high t.0), j ∙ rw (g.1, o) refl ∙ sym (subtree-right H s e k D b t.0 i m w (sym f) high))
  proof_above D s e k b s' e' n' b' side r c x x' v p q (both before over) t i m f w j d up o g =
      let z = sym (roots-both H s e (length D) k b r c q w (sym f) before over ∙ rw d refl) ∙ ap (subtree_roots H s e (length D) b r) (sym j) ∙ up in
      let first : hash_node H c x' ≡ x = ap (λ (v : List ℕ × List ℕ). v.0) (same_some (hash_node H c x', hash_node H c v) (x, mth H D) z) in
      let zero_start : s ≡ 0 = subtree_both s e k t (subst IsPower (sym f) (split_is (length D) m).power) before over in
      let less : e < length D = first_ends s e (length D) zero_start w in (
        sym first ∙ ap (λ v. hash_node H v x') o ∙ ap (hash_node H (mth H (take k D))) g.0 ∙ sym (first_root H e k D (sym f) over less)
            ∙ ap (mth H) (sym (slice_first s e D zero_start)),
        j ∙ rw (g.1, o) refl ∙ sym (subtree-both H s e k D b t.0 i m w (sym f) before over),
      )

  subtree_below : (s e n k : ℕ) (b : Bool) (s' e' n' : ℕ) (b' side : Bool) → IsHalf s e n k b s' e' n' b' side → IsSubtree s e → e ≤ n → 1 < n → k ≡ split n
      → IsSubtree s' e'
  subtree_below s e n k b s' e' n' b' side (left low) t i m f = t
  subtree_below s e n k b s' e' n' b' side (right high) t i m f =
      subtree_right s e k t (subst IsPower (sym f) (split_is n m).power) high (omega (arith, t.0, split_half n m, f))
  subtree_below s e n k b s' e' n' b' side (both before over) t i m f = subtree_first (e - k) (omega arith)

  result_above : (s e k : ℕ) (b : Bool) (s' e' n' : ℕ) (b' side : Bool) (r c x x' v : List ℕ) (D p q : List (List ℕ)) (o : Option Difference)
      → IsHalf s e (length D) k b s' e' n' b' side → IsSubtree s e
      → e ≤ length D → 1 < length D → k ≡ split (length D) → is_whole s e (length D) ≡ false → p ≡ q ++ c ∷ []
      → length (cond side (take k D) (drop k D)) ≡ n'
      → subtree_roots H s' e' n' b' r q ≡ Some (x', v) → subtree_roots H s e (length D) b r p ≡ Some (x, mth H D)
      → c ≡ cond side (mth H (drop k D)) (mth H (take k D)) → SearchResult H s' e' b' r x' (cond side (take k D) (drop k D)) q o
      → SearchResult H s e b r x D p o
  result_above s e k b s' e' n' b' side r c x x' v D p q None h t i m f w j a d up o g =
      proof_above D s e k b s' e' n' b' side r c x x' v p q h t i m f w j d up o g
  result_above s e k b s' e' n' b' side r c x x' v D p q (Some z) h t i m f w j a d up o g = (
    string_below s e (length D) k b s' e' n' b' side r c x' v (node_string z.proved) p q h t.0 f w j d
        (subst (λ n. Contains (subtree_strings H s' e' n b' r q) (node_string z.proved)) a g.0),
    joined_below k side D (node_string z.listed) m f g.1,
    g.2,
  )

  pub search_above : (s e k : ℕ) (b : Bool) (s' e' n' : ℕ) (b' side : Bool) (r c x x' v A B : List ℕ) (D E p q : List (List ℕ)) (o : Option Difference)
      → IsHalf s e (length D) k b s' e' n' b' side → IsSubtree s e
      → e ≤ length D → 1 < length D → k ≡ split (length D) → is_whole s e (length D) ≡ false → p ≡ q ++ c ∷ []
      → E ≡ cond side (take k D) (drop k D) → length E ≡ n'
      → subtree_roots H s' e' n' b' r q ≡ Some (x', v) → subtree_roots H s e (length D) b r p ≡ Some (x, mth H D)
      → cond side v c ≡ A → cond side c v ≡ B → A ≡ mth H (take k D) → B ≡ mth H (drop k D)
      → ((z : List ℕ) → IsSubtree s' e' → subtree_roots H s' e' n' b' r q ≡ Some (z, mth H E) → SearchResult H s' e' b' r z E q o)
      → SearchResult H s e b r x D p o
  search_above s e k b s' e' n' b' side r c x x' v A B D E p q o h t i m f w j ie a d up ia ib ja jb ih =
      let same = by_side side ia ib in
      let u : v ≡ mth H E = same.0 ∙ ap (mth H) (sym ie) in
      let g = ih x' (subtree_below s e (length D) k b s' e' n' b' side h t i m f) (d ∙ ap (λ z. Some (x', z)) u) in
      result_above s e k b s' e' n' b' side r c x x' v D p q o h t i m f w j (ap length (sym ie) ∙ a) d up same.1
      (subst (λ L. SearchResult H s' e' b' r x' L q o) ie g)
    where
      by_side : (side : Bool) → cond side v c ≡ A → cond side c v ≡ B
          → (v ≡ mth H (cond side (take k D) (drop k D))) × (c ≡ cond side (mth H (drop k D)) (mth H (take k D)))
      by_side true x y = (x ∙ ja, y ∙ jb)
      by_side false x y = (y ∙ jb, x ∙ ja)
