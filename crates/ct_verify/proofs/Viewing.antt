-- The leaves that clients can be shown: at each index there is only one leaf, or two of the hashed strings collide.
use Rattle.std.proofs.Common.{◌≡◌, ℕ, ◌<◌, subst, arith, ◌⊎◌, inl, inr, ⊎_elim, true, List, ◌∷◌, ◌++◌, length, reverse}
use Rattle.std.specs.Prelude.{All, Contains}
use Rattle.std.proofs.Math.Seq.{take-append_seam, drop-append_seam}
use Rattle.std.proofs.lemmas.List.Elements.{All-take, All-drop, All-head, All-tail, All-weaker, All-contains_itself, Contains-append_left, Contains-append_right}
use Rattle.ct_tree.specs.Tree.{hash_leaf}
use Rattle.ct_verify.proofs.Shown.{tail_same, rebuilt_length}
use Rattle.ct_verify.specs.Laws.{AreHashes}
use Rattle.ct_verify.specs.Rebuild.{rebuild, both_roots}
use Rattle.ct_verify.specs.Verdict.{AcceptsConsistency}
use Rattle.ct_verify.proofs.Agreeing.{one_hash, agree, all_reverse}
use Rattle.ct_verify.proofs.Carrying.{Leads, extend}
use Rattle.ct_verify.specs.Hashed.{CollideAmong, path_strings, proof_strings}
use Rattle.ct_verify.specs.Shown.{IsShown, shown_strings, OneHeadShowsOneLeaf, ConsistentHeadsShowOneLeaf}

-- the strings of a part of a list are in the list
pub in_left : (A B : List (List ℕ)) → All (Contains (A ++ B)) A
in_left A B = All-weaker (Contains A) (Contains (A ++ B)) (λ x c. Contains-append_left A B x c) A (All-contains_itself A)

pub in_right : (A B : List (List ℕ)) → All (Contains (A ++ B)) B
in_right A B = All-weaker (Contains B) (Contains (A ++ B)) (λ x c. Contains-append_right A B x c) B (All-contains_itself B)

-- the two parts of a list
pub first_of : (S : List ℕ → Type 0) (A B : List (List ℕ)) → All S (A ++ B) → All S A
first_of S A B a = subst (All S) (take-append_seam A B) (All-take S (length A) (A ++ B) a)

pub second_of : (S : List ℕ → Type 0) (A B : List (List ℕ)) → All S (A ++ B) → All S B
second_of S A B a = subst (All S) (drop-append_seam A B) (All-drop S (length A) (A ++ B) a)

module _ (H : List ℕ → List ℕ) (hash_length : (x : List ℕ) → length (H x) ≡ 32) (S : List ℕ → Type 0) where
  -- a path that a client was shown, read from the root down
  pub leads : (x : List ℕ) (i n : ℕ) (root : List ℕ) (p : List (List ℕ)) → IsShown H x i n root p → All S (shown_strings H x i n p) → Leads H hash_length S i n (hash_leaf H x) root
  unfolding rebuild path_strings
  leads x i n root p a s = (reverse p, all_reverse (λ v. length v ≡ 32) p a.0, All-tail S (0 ∷ x) (path_strings H i n (hash_leaf H x) p) s, a.1.1)

  -- two leaves with the same hash
  pub leaves : (x y : List ℕ) → S (0 ∷ x) → S (0 ∷ y) → hash_leaf H x ≡ hash_leaf H y → (x ≡ y) ⊎ CollideAmong H S
  leaves x y sx sy e =
      ⊎_elim
      (λ (same : 0 ∷ x ≡ 0 ∷ y). inl (tail_same 0 0 x y same))
      (λ (pair : CollideAmong H S). inr pair)
      (one_hash H S (0 ∷ x) (0 ∷ y) sx sy e)

  -- two paths to the same root
  pub meet : (x y : List ℕ) (i n : ℕ) (root : List ℕ) → S (0 ∷ x) → S (0 ∷ y) → Leads H hash_length S i n (hash_leaf H x) root
      → Leads H hash_length S i n (hash_leaf H y) root → (x ≡ y) ⊎ CollideAmong H S
  meet x y i n root sx sy a b =
      ⊎_elim
      (λ (same : (hash_leaf H x ≡ hash_leaf H y) × (a.0 ≡ b.0)). leaves x y sx sy same.0)
      (λ (pair : CollideAmong H S). inr pair)
      (agree H hash_length S a.0 b.0 i n (hash_leaf H x) (hash_leaf H y) root (hash_length (0 ∷ x)) (hash_length (0 ∷ y)) a.2 b.2 a.3 b.3)

  -- a path is continued along a consistency proof
  pub further : (m n i : ℕ) (a b : List ℕ) (x : List ℕ) (proof : List (List ℕ)) → AreHashes proof → length a ≡ 32 → AcceptsConsistency H m n a b proof → i < m
      → All S (proof_strings H m n true a proof) → Leads H hash_length S i m (hash_leaf H x) a → Leads H hash_length S i n (hash_leaf H x) b ⊎ CollideAmong H S
  unfolding both_roots proof_strings
  further m n i a b x proof hashes a32 accepted inside s w =
      extend H hash_length S (reverse proof) w.0 m n i true a a b (hash_leaf H x) (all_reverse (λ v. length v ≡ 32) proof hashes) w.1 (λ known. a32)
      (hash_length (0 ∷ x)) inside (omega (arith, accepted.1)) accepted.2 w.3 s w.2

  -- the root to which a path leads has 32 bytes
  pub root_length : (x : List ℕ) (i n : ℕ) (root : List ℕ) → Leads H hash_length S i n (hash_leaf H x) root → length root ≡ 32
  root_length x i n root w = rebuilt_length H hash_length w.0 i n (hash_leaf H x) root (hash_length (0 ∷ x)) w.3

pub one_head_shows_one_leaf : OneHeadShowsOneLeaf
one_head_shows_one_leaf H hash_length x y i n root p q a b =
    let X = shown_strings H x i n p in
    let Y = shown_strings H y i n q in
    let S = Contains (X ++ Y) in
    let sx : All S X = in_left X Y in
    let sy : All S Y = in_right X Y in
    meet H hash_length S x y i n root (All-head S (0 ∷ x) (path_strings H i n (hash_leaf H x) p) sx) (All-head S (0 ∷ y) (path_strings H i n (hash_leaf H y) q) sy)
    (leads H hash_length S x i n root p a sx) (leads H hash_length S y i n root q b sy)

-- three parts of one list
module _ (A B C : List (List ℕ)) where
  abbrev InAll : List ℕ → Type 0
  InAll = Contains (A ++ B ++ C)

  pub first_part : All InAll A
  first_part = All-weaker (Contains (A ++ B)) InAll (λ x c. Contains-append_left (A ++ B) C x c) A (in_left A B)

  pub second_part : All InAll B
  second_part = All-weaker (Contains (A ++ B)) InAll (λ x c. Contains-append_left (A ++ B) C x c) B (in_right A B)

  pub third_part : All InAll C
  third_part = in_right (A ++ B) C

pub consistent_heads_show_one_leaf : ConsistentHeadsShowOneLeaf
consistent_heads_show_one_leaf H hash_length m n a b proof hashes accepted x y i p q shown_x shown_y =
    let P = proof_strings H m n true a proof in
    let X = shown_strings H x i m p in
    let Y = shown_strings H y i n q in
    let S = Contains (P ++ X ++ Y) in
    let sp : All S P = first_part P X Y in
    let sx : All S X = second_part P X Y in
    let sy : All S Y = third_part P X Y in
    let w = leads H hash_length S x i m a p shown_x sx in
    ⊎_elim
    (λ (v : Leads H hash_length S i n (hash_leaf H x) b).
    meet H hash_length S x y i n b (All-head S (0 ∷ x) (path_strings H i m (hash_leaf H x) p) sx) (All-head S (0 ∷ y) (path_strings H i n (hash_leaf H y) q) sy) v
    (leads H hash_length S y i n b q shown_y sy))
    (λ (pair : CollideAmong H S). inr pair)
    (further H hash_length S m n i a b x proof hashes (root_length H hash_length S x i m a w) accepted shown_x.1.0 sp w)
