-- A path in a subtree of a list names the entry of the list, and one hash of a subtree shows one leaf at an index; or two of the hashed
-- strings collide.
use Rattle.std.proofs.Common.{subst, ◌⊎◌, inl, inr, ⊎_elim, ◌≡◌, ℕ, ◌-◌, ◌<◌, ◌≤◌, sym, ◌∙◌, ap, arith, List, [], ◌∷◌, ◌++◌, length, take, drop, map, reverse, Some}
use Rattle.std.specs.Prelude.{All, Contains}
use Rattle.std.proofs.lemmas.List.{take-map, drop-map, reverse-reverse}
use Rattle.std.proofs.lemmas.List.Elements.{All-head, All-tail}
use Rattle.ct_tree.specs.Tree.{hash_leaf, mth_of_leaves, path}
use Rattle.ct_verify.proofs.Agreeing.{agree, one_hash, collide_more}
use Rattle.ct_verify.proofs.ListProofs.{accepted_path_is_path}
use Rattle.ct_verify.proofs.Shown.{tail_same}
use Rattle.ct_verify.proofs.Viewing.{in_left, in_right}
use Rattle.ct_verify.specs.Evidence.{IsAudited}
use Rattle.ct_verify.specs.Hashed.{CollideAmong, IsHashedIn, path_strings}
use Rattle.ct_verify.specs.ListLaws.{IsHashedInAudit}
use Rattle.ct_verify.specs.Rebuild.{rebuild}
use Rattle.ct_subtrees.specs.Meaning.{SerialNumberNamesEntry, SubtreeHashShowsOneLeaf, IsSubtreeOfList, IsEntryAt, IsHashedInSubtreeCheck, IsHashedInLeafCheck}
use Rattle.ct_subtrees.specs.Subtrees.{slice}
use Rattle.ct_subtrees.specs.Verdict.{IsInSubtree}
use Rattle.ct_subtrees.proofs.OfList.{accepted_subtree_is_of_list}
use Rattle.ct_subtrees.proofs.Rebuilds.{slice_length, slice_get}

slice_map : {X Y : Type 0} (f : X → Y) (s e : ℕ) (D : List X) → slice s e (map f D) ≡ map f (slice s e D)
slice_map f s e D = ap (drop s) (take-map f e D) ∙ drop-map f s (take e D)

module _ (H : List ℕ → List ℕ) (hash_length : (x : List ℕ) → length (H x) ≡ 32) where
  -- a path in the subtree of a list
  entry : (D : List (List ℕ)) (s e i : ℕ) (leaf : List ℕ) (q : List (List ℕ)) → IsInSubtree i s e → e ≤ length D
      → rebuild H (i - s) (e - s) (hash_leaf H leaf) q ≡ Some (mth_of_leaves H (slice s e D))
      → IsEntryAt H i s e D leaf q ⊎ CollideAmong H (IsHashedInLeafCheck H i s e D leaf q)
  entry D s e i leaf q within l d =
      let n : length (slice s e D) ≡ e - s = slice_length s e D (omega (arith, within.1, within.2)) l in
      let inside : i - s < length (slice s e D) = omega (arith, within.1, within.2, n) in
      ⊎_elim
      (λ (f : IsAudited H (slice s e D) leaf (i - s) q).
      inl (omega (arith, within.2), f.1 ∙ slice_get i s e D [] within.1 within.2, f.2 ∙ ap (path H (i - s)) (sym (slice_map (hash_leaf H) s e D))))
      (λ (pair : CollideAmong H (IsHashedInAudit H (slice s e D) leaf (i - s) q)).
      inr (subst (λ m. CollideAmong H (λ t. Contains ((0 ∷ leaf) ∷ path_strings H (i - s) m (hash_leaf H leaf) q) t ⊎ IsHashedIn H (slice s e D) t)) n pair))
      (accepted_path_is_path H hash_length (slice s e D) leaf (i - s) q
      (inside, ap (λ m. rebuild H (i - s) m (hash_leaf H leaf) q) n ∙ d))

pub serial_number_names_entry : SerialNumberNamesEntry
serial_number_names_entry H hash_length D s e x p hashes accepted i leaf q evaluated =
    let P = IsHashedInSubtreeCheck H s e x D p in
    let Q = IsHashedInLeafCheck H i s e D leaf q in
    let S : List ℕ → Type 0 = λ t. P t ⊎ Q t in
    ⊎_elim
    (λ (f : IsSubtreeOfList H s e x D p).
    ⊎_elim
    (λ (found : IsEntryAt H i s e D leaf q). inl found)
    (λ (pair : CollideAmong H Q). inr (collide_more H Q S (λ t w. inr w) pair))
    (entry H hash_length D s e i leaf q evaluated.0 accepted.0.1 (evaluated.1 ∙ ap Some f.0)))
    (λ (pair : CollideAmong H P). inr (collide_more H P S (λ t w. inl w) pair))
    (accepted_subtree_is_of_list H hash_length D s e x p hashes accepted)

pub subtree_hash_shows_one_leaf : SubtreeHashShowsOneLeaf
unfolding rebuild path_strings
subtree_hash_shows_one_leaf H hash_length i s e x leaf other p q a b =
    let X = (0 ∷ leaf) ∷ path_strings H (i - s) (e - s) (hash_leaf H leaf) p in
    let Y = (0 ∷ other) ∷ path_strings H (i - s) (e - s) (hash_leaf H other) q in
    let S = Contains (X ++ Y) in
    let sx : All S X = in_left X Y in
    let sy : All S Y = in_right X Y in
    ⊎_elim
    (λ (same : (hash_leaf H leaf ≡ hash_leaf H other) × (reverse p ≡ reverse q)).
    ⊎_elim
    (λ (one : 0 ∷ leaf ≡ 0 ∷ other). inl (tail_same 0 0 leaf other one, sym (reverse-reverse p) ∙ ap reverse same.1 ∙ reverse-reverse q))
    (λ (pair : CollideAmong H S). inr pair)
    (one_hash H S (0 ∷ leaf) (0 ∷ other) (All-head S (0 ∷ leaf) (path_strings H (i - s) (e - s) (hash_leaf H leaf) p) sx)
    (All-head S (0 ∷ other) (path_strings H (i - s) (e - s) (hash_leaf H other) q) sy) same.0))
    (λ (pair : CollideAmong H S). inr pair)
    (agree H hash_length S (reverse p) (reverse q) (i - s) (e - s) (hash_leaf H leaf) (hash_leaf H other) x (hash_length (0 ∷ leaf)) (hash_length (0 ∷ other))
    (All-tail S (0 ∷ leaf) (path_strings H (i - s) (e - s) (hash_leaf H leaf) p) sx)
    (All-tail S (0 ∷ other) (path_strings H (i - s) (e - s) (hash_leaf H other) q) sy) a.1 b.1)
