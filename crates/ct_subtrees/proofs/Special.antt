-- Two kinds of subtree have the proofs of RFC 6962: the first leaves, and one leaf.
use Rattle.std.proofs.Common.{◌≡◌, ℕ, suc, ◌+◌, ◌-◌, ◌<◌, ◌≤◌, Bool, true, false, refl, sym, ◌∙◌, ap, arith, List, [], ◌∷◌, ◌++◌, length, take, drop, reverse, Option, Some, None, length-drop}
use Rattle.std.specs.Option.{option_map}
use Rattle.std.proofs.lemmas.List.{length-take-le}
use Rattle.ct_tree.proofs.Length.{path_length-one, path_length-left, path_length-right}
use Rattle.ct_tree.proofs.Path.{path-small, path-left, path-right}
use Rattle.ct_tree.proofs.Split.{split_pos, split_lt, split_induct}
use Rattle.ct_tree.proofs.Subproof.{subproof-whole, subproof-left, subproof-right}
use Rattle.ct_tree.specs.Lengths.{path_length}
use Rattle.ct_tree.specs.Tree.{split, hash_node, mth, path, subproof}
use Rattle.ct_verify.proofs.Both.{both-left, both-right, both-end, both-end_whole, both-whole}
use Rattle.ct_verify.proofs.Options.{mapped}
use Rattle.ct_verify.proofs.Rebuild.{rebuild_left, rebuild_right, rebuild_past, rebuild_short, rebuild_leaf}
use Rattle.ct_verify.specs.Climb.{pair_left, pair_right}
use Rattle.ct_verify.specs.Rebuild.{rebuild, rebuild_down, both_roots, both_down}
use Rattle.ct_subtrees.specs.Subtrees.{subtree_subproof, subtree_length, is_whole}
use Rattle.ct_subtrees.specs.Roots.{subtree_roots, subtree_down}
use Rattle.ct_subtrees.proofs.Whole.{Part, all, first_part, second_part, both_parts, part, whole_is, first_ends}
use Rattle.ct_subtrees.proofs.Down.{pair_beyond, down-end, down-end_whole, down-whole, down-left, down-right, down-both}
use Rattle.ct_subtrees.proofs.Length.{length-whole, length-left, length-right}
use Rattle.ct_subtrees.proofs.Subproof.{subtree-whole, subtree-left, subtree-right, subtree-both}

map_twice : {X Y Z : Type 0} (f : Y → Z) (g : X → Y) (h : X → Z) (o : Option X) → ((x : X) → f (g x) ≡ h x) → option_map f (option_map g o) ≡ option_map h o
map_twice f g h None e = refl
map_twice f g h (Some x) e = ap Some (e x)

module _ (H : List ℕ → List ℕ) where
  -- ---- the two hashes of the first leaves
  first_end : (e n : ℕ) (b : Bool) (r : List ℕ) → 0 < e → e ≤ n → Part 0 e n → subtree_down H 0 e n b r [] ≡ both_down H e n b r []
  first_end e n b r l i (all z f) = down-end_whole H 0 e n b r (whole_is 0 e n z (omega arith)) ∙ sym (both-end_whole H e n b r (omega arith))
  first_end e n b r l i (first_part m w low) = down-end H 0 e n b r w ∙ sym (both-end H e n b r (first_ends 0 e n refl w))
  first_end e n b r l i (second_part m w high) = down-end H 0 e n b r w ∙ sym (both-end H e n b r (first_ends 0 e n refl w))
  first_end e n b r l i (both_parts m w before over) = down-end H 0 e n b r w ∙ sym (both-end H e n b r (first_ends 0 e n refl w))

  abbrev SameRoots : List (List ℕ) → Type 0
  SameRoots q = (e n : ℕ) (b : Bool) (r : List ℕ) → 0 < e → e ≤ n → subtree_down H 0 e n b r q ≡ both_down H e n b r q

  first_more : (c : List ℕ) (q : List (List ℕ)) → SameRoots q → (e n : ℕ) (b : Bool) (r : List ℕ) → 0 < e → e ≤ n → Part 0 e n
      → subtree_down H 0 e n b r (c ∷ q) ≡ both_down H e n b r (c ∷ q)
  first_more c q ih e n b r l i (all z f) =
      down-whole H 0 e n b r c q (whole_is 0 e n z (omega arith)) ∙ sym (both-whole H e n b r c q (omega arith))
  first_more c q ih e n b r l i (first_part m w low) =
      down-left H 0 e n (split n) b r c q w refl low
      ∙ ap (option_map (λ z. pair_left H z c)) (ih e (split n) b r l low)
      ∙ sym (both-left H e n (split n) b r c q (first_ends 0 e n refl w) refl low)
  first_more c q ih e n b r l i (second_part m w high) = absurd (omega (arith, split_pos n m))
  first_more c q ih e n b r l i (both_parts m w before over) =
      down-both H 0 e n (split n) b r c q w refl before over
      ∙ ap (option_map (λ z. pair_right H z c)) (ih (e - split n) (n - split n) false r (omega arith) (omega arith))
      ∙ sym (both-right H e n (split n) b r c q (first_ends 0 e n refl w) refl over)

  first_same : (q : List (List ℕ)) → SameRoots q
  first_same [] e n b r l i = first_end e n b r l i (part 0 e n l i)
  first_same (c ∷ q) e n b r l i = first_more c q (first_same q) e n b r l i (part 0 e n l i)

  pub first_roots : (m n : ℕ) (x : List ℕ) (p : List (List ℕ)) → 0 < m → m ≤ n → subtree_roots H 0 m n true x p ≡ both_roots H m n true x p
  unfolding subtree_roots both_roots
  first_roots m n x p l i = first_same (reverse p) m n true x l i

  -- ---- the two hashes of one leaf
  abbrev Known : List ℕ → List ℕ → List ℕ × List ℕ
  Known h y = (h, y)

  leaf_end : (i n : ℕ) (h : List ℕ) → i < n → Part i (i + 1) n → subtree_down H i (i + 1) n true h [] ≡ option_map (Known h) (rebuild_down H i n h [])
  leaf_end i n h l (all z f) =
      down-end_whole H i (i + 1) n true h (whole_is i (i + 1) n z (omega arith)) ∙ sym (ap (option_map (Known h)) (rebuild_leaf H i n h (omega arith)))
  leaf_end i n h l (first_part m w low) = down-end H i (i + 1) n true h w ∙ sym (ap (option_map (Known h)) (rebuild_short H i n h m))
  leaf_end i n h l (second_part m w high) = down-end H i (i + 1) n true h w ∙ sym (ap (option_map (Known h)) (rebuild_short H i n h m))
  leaf_end i n h l (both_parts m w before over) = absurd (omega arith)

  abbrev SamePath : List (List ℕ) → Type 0
  SamePath q = (i n : ℕ) (h : List ℕ) → i < n → subtree_down H i (i + 1) n true h q ≡ option_map (Known h) (rebuild_down H i n h q)

  leaf_more : (c : List ℕ) (q : List (List ℕ)) → SamePath q → (i n : ℕ) (h : List ℕ) → i < n → Part i (i + 1) n
      → subtree_down H i (i + 1) n true h (c ∷ q) ≡ option_map (Known h) (rebuild_down H i n h (c ∷ q))
  leaf_more c q ih i n h l (all z f) =
      down-whole H i (i + 1) n true h c q (whole_is i (i + 1) n z (omega arith)) ∙ sym (ap (option_map (Known h)) (rebuild_past H i n h c q (omega arith)))
  leaf_more c q ih i n h l (first_part m w low) =
      let k = split n in
      down-left H i (i + 1) n k true h c q w refl low
      ∙ ap (option_map (λ z. pair_left H z c)) (ih i k h (omega arith))
      ∙ map_twice (λ z. pair_left H z c) (Known h) (λ y. (h, hash_node H y c)) (rebuild_down H i k h q) (λ y. refl)
      ∙ sym (map_twice (Known h) (λ y. hash_node H y c) (λ y. (h, hash_node H y c)) (rebuild_down H i k h q) (λ y. refl))
      ∙ sym (ap (option_map (Known h)) (rebuild_left H i n k h c q m refl (omega arith)))
  leaf_more c q ih i n h l (second_part m w high) =
      let k = split n in
      let f : i + 1 - k ≡ i - k + 1 = omega arith in
      down-right H i (i + 1) n k true h c q w refl high (omega arith)
      ∙ ap (option_map (λ z. pair_beyond H z c)) (ap (λ v. subtree_down H (i - k) v (n - k) true h q) f ∙ ih (i - k) (n - k) h (omega (arith, split_lt n m)))
      ∙ map_twice (λ z. pair_beyond H z c) (Known h) (λ y. (h, hash_node H c y)) (rebuild_down H (i - k) (n - k) h q) (λ y. refl)
      ∙ sym (map_twice (Known h) (λ y. hash_node H c y) (λ y. (h, hash_node H c y)) (rebuild_down H (i - k) (n - k) h q) (λ y. refl))
      ∙ sym (ap (option_map (Known h)) (rebuild_right H i n k h c q m refl high))
  leaf_more c q ih i n h l (both_parts m w before over) = absurd (omega arith)

  leaf_same : (q : List (List ℕ)) → SamePath q
  leaf_same [] i n h l = leaf_end i n h l (part i (i + 1) n (omega arith) (omega arith))
  leaf_same (c ∷ q) i n h l = leaf_more c q (leaf_same q) i n h l (part i (i + 1) n (omega arith) (omega arith))

  pub leaf_roots : (i n : ℕ) (h : List ℕ) (p : List (List ℕ)) → i < n → subtree_roots H i (i + 1) n true h p ≡ option_map (λ y. (h, y)) (rebuild H i n h p)
  unfolding subtree_roots rebuild
  leaf_roots i n h p l = leaf_same (reverse p) i n h l

  -- ---- the proof of the first leaves
  abbrev SameProof : ℕ → Type 0
  SameProof n = (m : ℕ) (D : List (List ℕ)) (b : Bool) → length D ≡ n → 0 < m → m ≤ n → subtree_subproof H 0 m D b ≡ subproof H m D b

  first_case : (n : ℕ) → (1 < n → SameProof (split n)) → (1 < n → SameProof (n - split n)) → (e : ℕ) (D : List (List ℕ)) (b : Bool) → length D ≡ n
      → 0 < e → e ≤ n → Part 0 e n → subtree_subproof H 0 e D b ≡ subproof H e D b
  first_case n below_left below_right e D b j l i (all z f) = subtree-whole H 0 e D b l z (omega arith) ∙ sym (subproof-whole H e D b l (omega arith))
  first_case n below_left below_right e D b j l i (first_part m w low) =
      let k = split n in
      let less : e < n = first_ends 0 e n refl w in
      subtree-left H 0 e k D b l (omega arith) (omega arith) (ap (is_whole 0 e) j ∙ w) (ap split j) low
      ∙ ap (λ q. q ++ mth H (drop k D) ∷ []) (below_left m e (take k D) b (length-take-le k D (omega (arith, split_lt n m))) l low)
      ∙ sym (subproof-left H e k D b l (omega arith) (ap split j) low)
  first_case n below_left below_right e D b j l i (second_part m w high) = absurd (omega (arith, split_pos n m))
  first_case n below_left below_right e D b j l i (both_parts m w before over) =
      let k = split n in
      let less : e < n = first_ends 0 e n refl w in
      subtree-both H 0 e k D b l (omega arith) (omega arith) (ap (is_whole 0 e) j ∙ w) (ap split j) before over
      ∙ ap (λ q. q ++ mth H (take k D) ∷ []) (below_right m (e - k) (drop k D) false (omega (arith, length-drop k D)) (omega arith) (omega arith))
      ∙ sym (subproof-right H e k D b l (omega arith) (ap split j) over)

  pub first_proof : (n : ℕ) → SameProof n
  first_proof =
      split_induct SameProof
      (λ e D b j l i. absurd (omega arith))
      (λ e D b j l i. first_case 1 (λ m. absurd (omega arith)) (λ m. absurd (omega arith)) e D b j l i (part 0 e 1 l i))
      (λ n m below_left below_right e D b j l i. first_case n (λ _. below_left) (λ _. below_right) e D b j l i (part 0 e n l i))

  -- ---- the proof of one leaf
  abbrev LeafProof : ℕ → Type 0
  LeafProof n = (i : ℕ) (D : List (List ℕ)) → length D ≡ n → i < n → subtree_subproof H i (i + 1) D true ≡ path H i D

  leaf_case : (n : ℕ) → (1 < n → LeafProof (split n)) → (1 < n → LeafProof (n - split n)) → (i : ℕ) (D : List (List ℕ)) → length D ≡ n → i < n
      → Part i (i + 1) n → subtree_subproof H i (i + 1) D true ≡ path H i D
  leaf_case n below_left below_right i D j l (all z f) =
      subtree-whole H i (i + 1) D true (omega arith) z (omega arith) ∙ sym (path-small H i D (omega arith))
  leaf_case n below_left below_right i D j l (first_part m w low) =
      let k = split n in
      subtree-left H i (i + 1) k D true (omega arith) (omega arith) (omega arith) (ap (is_whole i (i + 1)) j ∙ w) (ap split j) low
      ∙ ap (λ q. q ++ mth H (drop k D) ∷ []) (below_left m i (take k D) (length-take-le k D (omega (arith, split_lt n m))) (omega arith))
      ∙ sym (path-left H i k D (omega arith) (ap split j) (omega arith))
  leaf_case n below_left below_right i D j l (second_part m w high) =
      let k = split n in
      let f : i + 1 - k ≡ i - k + 1 = omega arith in
      subtree-right H i (i + 1) k D true (omega arith) (omega arith) (omega arith) (ap (is_whole i (i + 1)) j ∙ w) (ap split j) high
      ∙ ap (λ q. q ++ mth H (take k D) ∷ [])
      (ap (λ v. subtree_subproof H (i - k) v (drop k D) true) f ∙ below_right m (i - k) (drop k D) (omega (arith, length-drop k D)) (omega arith))
      ∙ sym (path-right H i k D (omega arith) (ap split j) high)
  leaf_case n below_left below_right i D j l (both_parts m w before over) = absurd (omega arith)

  pub leaf_proof : (n : ℕ) → LeafProof n
  leaf_proof =
      split_induct LeafProof
      (λ i D j l. absurd (omega arith))
      (λ i D j l. leaf_case 1 (λ m. absurd (omega arith)) (λ m. absurd (omega arith)) i D j l (part i (i + 1) 1 (omega arith) (omega arith)))
      (λ n m below_left below_right i D j l.
      leaf_case n (λ _. below_left) (λ _. below_right) i D j l (part i (i + 1) n (omega arith) (omega arith)))

-- ---- the length of the proof of one leaf
abbrev LeafLength : ℕ → Type 0
LeafLength n = (i : ℕ) → i < n → subtree_length i (i + 1) n true ≡ path_length i n

length_case : (n : ℕ) → (1 < n → LeafLength (split n)) → (1 < n → LeafLength (n - split n)) → (i : ℕ) → i < n → Part i (i + 1) n
    → subtree_length i (i + 1) n true ≡ path_length i n
length_case n below_left below_right i l (all z f) =
    let one : n ≡ 1 = omega arith in
    length-whole i (i + 1) n true (omega arith) z f ∙ sym (rw one (path_length-one i))
length_case n below_left below_right i l (first_part m w low) =
    length-left i (i + 1) n true (omega arith) (omega arith) m w low
    ∙ ap suc (below_left m i (omega arith))
    ∙ sym (path_length-left i n m (omega arith))
length_case n below_left below_right i l (second_part m w high) =
    let k = split n in
    let f : i + 1 - k ≡ i - k + 1 = omega arith in
    length-right i (i + 1) n true (omega arith) (omega arith) m w high
    ∙ ap suc (ap (λ v. subtree_length (i - k) v (n - k) true) f ∙ below_right m (i - k) (omega (arith, split_lt n m)))
    ∙ sym (path_length-right i n m high)
length_case n below_left below_right i l (both_parts m w before over) = absurd (omega arith)

pub leaf_length : (n : ℕ) → LeafLength n
leaf_length =
    split_induct LeafLength
    (λ i l. absurd (omega arith))
    (λ i l. length_case 1 (λ m. absurd (omega arith)) (λ m. absurd (omega arith)) i l (part i (i + 1) 1 (omega arith) (omega arith)))
    (λ n m below_left below_right i l. length_case n (λ _. below_left) (λ _. below_right) i l (part i (i + 1) n (omega arith) (omega arith)))

-- ---- a path that yields a root as the proof of one leaf yields it
pub leaf_rebuilt : (H : List ℕ → List ℕ) (i n : ℕ) (h x y : List ℕ) (p : List (List ℕ)) → i < n → subtree_roots H i (i + 1) n true h p ≡ Some (x, y)
    → rebuild H i n h p ≡ Some y
leaf_rebuilt H i n h x y p l e =
    let z = mapped (λ (y : List ℕ). (h, y)) (rebuild H i n h p) (x, y) (sym (leaf_roots H i n h p l) ∙ e) in
    z.1 ∙ ap Some (ap (λ (t : List ℕ × List ℕ). t.1) z.2)
