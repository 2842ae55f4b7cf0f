-- The leaves that clients can be shown under trees that witnesses cosigned: only one leaf at each index, or two of the hashed strings
-- collide.
use Rattle.std.proofs.Common.{◌≡◌, ℕ, ◌+◌, ◌-◌, ◌*◌, ◌<◌, ◌≤◌, subst, sym, ◌∙◌, ap, arith, ◌⊎◌, inl, inr, ⊎_elim, true, List, [], ◌∷◌, ◌++◌, length}
use Rattle.std.specs.Prelude.{All, Contains, flat_map}
use Rattle.std.proofs.lemmas.List.Elements.{All-head, All-weaker, Contains-append_left, Contains-append_right}
use Rattle.ct_tree.specs.Tree.{hash_leaf}
use Rattle.ct_verify.specs.Laws.{AreHashes}
use Rattle.ct_verify.proofs.Carrying.{Leads}
use Rattle.ct_verify.proofs.Viewing.{in_left, first_of, second_of, leads, meet, further, root_length, first_part, second_part, third_part}
use Rattle.ct_verify.specs.Hashed.{CollideAmong, path_strings, proof_strings}
use Rattle.ct_verify.specs.Shown.{IsShown, shown_strings}
use Rattle.ct_witness.proofs.Quorums.{common, Has, with_strings_of}
use Rattle.ct_witness.proofs.Runs.{reach_up, reach_same}
use Rattle.ct_witness.specs.declared.tree.Tree.{Tree}
use Rattle.ct_witness.specs.Witnessed.{TreeGoesOn}
use Rattle.ct_witness.specs.Runs.{Granted, AreGranted, IsWitness, IsCosigned, no_tree, granted_strings}
use Rattle.ct_witness.specs.Quorums.{AtLeast}
use Rattle.ct_witness.specs.Shown.{WitnessedTreesShowOneLeaf, QuorumsShowOneLeaf}

module _ (H : List ℕ → List ℕ) (hash_length : (x : List ℕ) → length (H x) ≡ 32) (S : List ℕ → Type 0) where
  -- one request
  one_on : (last : Tree) (s : Granted) (x : List ℕ) (i : ℕ) → AreHashes s.proof → TreeGoesOn H last s.tree s.proof → i < last.size
      → All S (proof_strings H last.size s.tree.size true last.root s.proof) → Leads H hash_length S i last.size (hash_leaf H x) last.root
      → Leads H hash_length S i s.tree.size (hash_leaf H x) s.tree.root ⊎ CollideAmong H S
  one_on last s x i hashes (inl same) inside strings w =
      inl (subst (λ n. Leads H hash_length S i n (hash_leaf H x) s.tree.root) (sym same.0)
      (subst (Leads H hash_length S i last.size (hash_leaf H x)) (sym same.1) w))
  one_on last s x i hashes (inr (inl grown)) inside strings w = absurd (omega (arith, grown.0, inside))
  one_on last s x i hashes (inr (inr accepted)) inside strings w =
      further H hash_length S last.size s.tree.size i last.root s.tree.root x s.proof hashes (root_length H hash_length S x i last.size last.root w) accepted inside strings w

  grows : (last tree : Tree) (p : List (List ℕ)) → TreeGoesOn H last tree p → last.size ≤ tree.size
  grows last tree p (inl same) = omega (arith, same.0)
  grows last tree p (inr (inl grown)) = omega (arith, grown.0)
  grows last tree p (inr (inr accepted)) = omega (arith, accepted.1)

  -- from a tree to a tree that was cosigned after it
  run_on : (last : Tree) (steps : List Granted) (b : Tree) (x : List ℕ) (i : ℕ) → AreGranted H last steps → IsCosigned b steps → i < last.size
      → All S (granted_strings H last steps) → Leads H hash_length S i last.size (hash_leaf H x) last.root
      → Leads H hash_length S i b.size (hash_leaf H x) b.root ⊎ CollideAmong H S
  unfolding AreGranted IsCosigned granted_strings
  run_on last [] b x i g c inside strings w = absurd c
  run_on last (s ∷ steps) b x i g (inl e) inside strings w =
      let own = first_of S (proof_strings H last.size s.tree.size true last.root s.proof) (granted_strings H s.tree steps) strings in
      subst (λ (t : Tree). Leads H hash_length S i t.size (hash_leaf H x) t.root ⊎ CollideAmong H S) (sym e) (one_on last s x i g.1 g.0.1 inside own w)
  run_on last (s ∷ steps) b x i g (inr c) inside strings w =
      let own = first_of S (proof_strings H last.size s.tree.size true last.root s.proof) (granted_strings H s.tree steps) strings in
      let others = second_of S (proof_strings H last.size s.tree.size true last.root s.proof) (granted_strings H s.tree steps) strings in
      let up = grows last s.tree s.proof g.0.1 in
      ⊎_elim
      (λ (v : Leads H hash_length S i s.tree.size (hash_leaf H x) s.tree.root). run_on s.tree steps b x i g.2 c (omega arith) others v)
      (λ (pair : CollideAmong H S). inr pair)
      (one_on last s x i g.1 g.0.1 inside own w)

  -- from one cosigned tree to another one that is not smaller
  between : (last : Tree) (steps : List Granted) (a b : Tree) (x : List ℕ) (i : ℕ) → AreGranted H last steps → IsCosigned a steps → IsCosigned b steps
      → a.size ≤ b.size → i < a.size → All S (granted_strings H last steps) → Leads H hash_length S i a.size (hash_leaf H x) a.root
      → Leads H hash_length S i b.size (hash_leaf H x) b.root ⊎ CollideAmong H S
  unfolding AreGranted IsCosigned granted_strings
  between last [] a b x i g c d less inside strings w = absurd c
  between last (s ∷ steps) a b x i g (inl e) (inl f) less inside strings w =
      inl (subst (λ (t : Tree). Leads H hash_length S i t.size (hash_leaf H x) t.root) (e ∙ sym f) w)
  between last (s ∷ steps) a b x i g (inl e) (inr d) less inside strings w =
      let others = second_of S (proof_strings H last.size s.tree.size true last.root s.proof) (granted_strings H s.tree steps) strings in
      run_on s.tree steps b x i g.2 d (omega (arith, inside, ap (λ (t : Tree). t.size) e)) others
      (subst (λ (t : Tree). Leads H hash_length S i t.size (hash_leaf H x) t.root) e w)
  between last (s ∷ steps) a b x i g (inr c) (inl f) less inside strings w =
      let up = reach_up H s.tree steps a g.2 c in
      let j : b.size ≡ s.tree.size = ap (λ (z : Tree). z.size) f in
      let k : a.size ≡ s.tree.size = omega (arith, up, j, less) in
      let r : a.root ≡ b.root = reach_same H s.tree steps a g.2 c k ∙ sym (ap (λ (z : Tree). z.root) f) in
      inl (subst (λ n. Leads H hash_length S i n (hash_leaf H x) b.root) (k ∙ sym j) (subst (Leads H hash_length S i a.size (hash_leaf H x)) r w))
  between last (s ∷ steps) a b x i g (inr c) (inr d) less inside strings w =
      let others = second_of S (proof_strings H last.size s.tree.size true last.root s.proof) (granted_strings H s.tree steps) strings in
      between s.tree steps a b x i g.2 c d less inside others w

  -- the leaves that two clients are shown under two trees that one witness cosigned
  witnessed : (steps : List Granted) → IsWitness H steps → (a b : Tree) → IsCosigned a steps → IsCosigned b steps → a.size ≤ b.size → (x y : List ℕ) (i : ℕ)
      (p q : List (List ℕ)) → IsShown H x i a.size a.root p → IsShown H y i b.size b.root q → All S (granted_strings H (no_tree H) steps)
      → All S (shown_strings H x i a.size p) → All S (shown_strings H y i b.size q) → (x ≡ y) ⊎ CollideAmong H S
  witnessed steps keeps a b c d less x y i p q shown_x shown_y strings strings_x strings_y =
      ⊎_elim
      (λ (w : Leads H hash_length S i b.size (hash_leaf H x) b.root).
      meet H hash_length S x y i b.size b.root (All-head S (0 ∷ x) (path_strings H i a.size (hash_leaf H x) p) strings_x)
      (All-head S (0 ∷ y) (path_strings H i b.size (hash_leaf H y) q) strings_y) w (leads H hash_length S y i b.size b.root q shown_y strings_y))
      (λ (pair : CollideAmong H S). inr pair)
      (between (no_tree H) steps a b x i keeps c d less shown_x.1.0 strings (leads H hash_length S x i a.size a.root p shown_x strings_x))

pub witnessed_trees_show_one_leaf : WitnessedTreesShowOneLeaf
witnessed_trees_show_one_leaf H hash_length steps keeps a b c d less x y i p q shown_x shown_y =
    let P = granted_strings H (no_tree H) steps in
    let X = shown_strings H x i a.size p in
    let Y = shown_strings H y i b.size q in
    witnessed H hash_length (Contains (P ++ X ++ Y)) steps keeps a b c d less x y i p q shown_x shown_y (first_part P X Y) (second_part P X Y) (third_part P X Y)

pub quorums_show_one_leaf : QuorumsShowOneLeaf
quorums_show_one_leaf H hash_length ws f j k honest l a b c d less x y i p q shown_x shown_y =
    let P = flat_map (granted_strings H (no_tree H)) ws in
    let X = shown_strings H x i a.size p in
    let Y = shown_strings H y i b.size q in
    let S = Contains (P ++ X ++ Y) in
    let enough : 2 * length ws < j + k + (length ws - f) = omega (arith, l) in
    let w = common (λ v. IsCosigned a v × Has H ws v) (IsCosigned b) (IsWitness H) ws j k (length ws - f) (with_strings_of H (IsCosigned a) j ws c) d honest enough in
    let strings : All S (granted_strings H (no_tree H) w.0) =
    All-weaker (Contains P) S (λ z e. Contains-append_left (P ++ X) Y z (Contains-append_left P X z e)) (granted_strings H (no_tree H) w.0) w.1.1 in
    witnessed H hash_length S w.0 w.3 a b w.1.0 w.2 less x y i p q shown_x shown_y strings (second_part P X Y) (third_part P X Y)
