-- Consequences for all trees that a witness cosigned.
use Rattle.std.proofs.Common.{true, refl, subst, ◌⊎◌, inl, inr, ⊎_elim, ◌≡◌, ℕ, ◌≤◌, sym, ◌∙◌, ap, arith, List, [], ◌∷◌, length, take}
use Rattle.std.specs.Prelude.{All, Contains}
use Rattle.std.proofs.lemmas.List.{length-take-le, take-take, take_all}
use Rattle.std.proofs.lemmas.List.Elements.{All-nil, All-cons, All-weaker, All-contains_itself}
use Rattle.ct_tree.proofs.Mth.{mth-nil}
use Rattle.ct_tree.specs.Tree.{mth_of_leaves}
use Rattle.ct_verify.specs.Hashed.{CollideAmong, IsHashedIn, proof_strings}
use Rattle.ct_verify.specs.Laws.{AreHashes}
use Rattle.ct_verify.specs.Verdict.{AcceptsConsistency}
use Rattle.ct_verify.proofs.OlderTree.{HasLog, has_cut, whole_log, goes_back}
use Rattle.ct_verify.proofs.Viewing.{first_of, second_of}
use Rattle.ct_witness.specs.declared.tree.Tree.{Tree}
use Rattle.ct_witness.specs.Witnessed.{TreeGoesOn}
use Rattle.ct_witness.specs.Runs.{Granted, no_tree, AreGranted, newest_tree, IsCosigned, IsTreeOf, IsTreeOfFirst, granted_strings, IsHashedOver, CosignedGoBack, CosignedAgree}

module _ (H : List ℕ → List ℕ) where
  -- a tree without leaves has the root of no leaves
  abbrev IsSound : Tree → Type 0
  IsSound t = t.size ≡ 0 → t.root ≡ H []

  -- ---- one request
  goes_sound : (last tree : Tree) (p : List (List ℕ)) → IsSound last → TreeGoesOn H last tree p → IsSound tree
  goes_sound last tree p sound (inl same) = λ z. same.1 ∙ sound (sym same.0 ∙ z)
  goes_sound last tree p sound (inr (inl grown)) = λ z. absurd (omega (arith, z, grown.1))
  goes_sound last tree p sound (inr (inr accepted)) = λ z. absurd (omega (arith, z, accepted.1))

  goes_up : (last tree : Tree) (p : List (List ℕ)) → TreeGoesOn H last tree p → last.size ≤ tree.size
  goes_up last tree p (inl same) = omega (arith, same.0)
  goes_up last tree p (inr (inl grown)) = omega (arith, grown.0)
  goes_up last tree p (inr (inr accepted)) = omega (arith, accepted.1)

  goes_same : (last tree : Tree) (p : List (List ℕ)) → TreeGoesOn H last tree p → tree.size ≡ last.size → tree.root ≡ last.root
  goes_same last tree p (inl same) e = same.1
  goes_same last tree p (inr (inl grown)) e = absurd (omega (arith, e, grown.0, grown.1))
  goes_same last tree p (inr (inr accepted)) e = absurd (omega (arith, e, accepted.1))

  -- ---- trees of lists
  whole : (D : List (List ℕ)) (t : Tree) → IsTreeOf H D t → IsTreeOfFirst H D t
  whole D t a = (omega (arith, a.0), a.1 ∙ ap (mth_of_leaves H) (sym (take_all t.size D (omega (arith, a.0)))))

  cut : (D : List (List ℕ)) (t : Tree) → IsTreeOfFirst H D t → IsTreeOf H (take t.size D) t
  cut D t a = (sym (length-take-le t.size D a.0), a.1)

  lift : (D : List (List ℕ)) (n : ℕ) (t : Tree) → n ≤ length D → IsTreeOfFirst H (take n D) t → IsTreeOfFirst H D t
  lift D n t l a =
      let m : length (take n D) ≡ n = length-take-le n D l in
      let i : t.size ≤ n = omega (arith, a.0) in
      (omega arith, a.1 ∙ ap (mth_of_leaves H) (take-take t.size n D i))

  -- ---- the sizes of a run increase
  pub reach_up : (last : Tree) (steps : List Granted) (a : Tree) → AreGranted H last steps → IsCosigned a steps → last.size ≤ a.size
  unfolding AreGranted IsCosigned
  reach_up last [] a g c = absurd c
  reach_up last (s ∷ steps) a g (inl e) = omega (arith, goes_up last s.tree s.proof g.0.1, ap (λ (t : Tree). t.size) e)
  reach_up last (s ∷ steps) a g (inr c) = omega (arith, goes_up last s.tree s.proof g.0.1, reach_up s.tree steps a g.2 c)

  pub reach_same : (last : Tree) (steps : List Granted) (a : Tree) → AreGranted H last steps → IsCosigned a steps → a.size ≡ last.size → a.root ≡ last.root
  unfolding AreGranted IsCosigned
  reach_same last [] a g c e = absurd c
  reach_same last (s ∷ steps) a g (inl same) e =
      let f : a.size ≡ s.tree.size = ap (λ (t : Tree). t.size) same in
      ap (λ (t : Tree). t.root) same ∙ goes_same last s.tree s.proof g.0.1 (sym f ∙ e)
  reach_same last (s ∷ steps) a g (inr c) e =
      let i = goes_up last s.tree s.proof g.0.1 in
      let j = reach_up s.tree steps a g.2 c in
      let f : a.size ≡ s.tree.size = omega (arith, i, j, e) in
      reach_same s.tree steps a g.2 c f ∙ goes_same last s.tree s.proof g.0.1 (sym f ∙ e)

module _ (H : List ℕ → List ℕ) (hash_length : (x : List ℕ) → length (H x) ≡ 32) (S : List ℕ → Type 0) where
  -- ---- one request, seen from the tree that it led to
  one_back : (last tree : Tree) (p D : List (List ℕ)) → IsSound H last → AreHashes p → All S (proof_strings H last.size tree.size true last.root p) → HasLog H hash_length S D
      → TreeGoesOn H last tree p → IsTreeOf H D tree → IsTreeOfFirst H D last ⊎ CollideAmong H S
  one_back last tree p D sound a strings log (inl same) t =
      let n : last.size ≡ length D = sym same.0 ∙ t.0 in
      inl (whole H D last (n, sym same.1 ∙ t.1))
  one_back last tree p D sound a strings log (inr (inl grown)) t =
      let none : mth_of_leaves H (take last.size D) ≡ H [] = ap (λ n. mth_of_leaves H (take n D)) grown.0 ∙ mth-nil H in
      inl (omega (arith, grown.0), sound grown.0 ∙ sym none)
  one_back last tree p D sound a strings log (inr (inr accepted)) t =
      let c : AcceptsConsistency H last.size (length D) last.root (mth_of_leaves H D) p = rw (t.0, t.1) at accepted in
      let own : All S (proof_strings H last.size (length D) true last.root p) = subst (λ n. All S (proof_strings H last.size n true last.root p)) t.0 strings in
      let l : last.size ≤ length D = omega (arith, c.1) in
      ⊎_elim
      (λ (e : last.root ≡ mth_of_leaves H (take last.size D)). inl (l, e))
      (λ (pair : CollideAmong H S). inr pair)
      (goes_back H hash_length S p last.size last.root D a c.0 l c.2 own
      (whole_log H hash_length S D log))

  -- the same if the tree that it led to is the tree of a prefix
  goes_further : (last : Tree) (s : Granted) (D : List (List ℕ)) → IsSound H last → AreHashes s.proof
      → All S (proof_strings H last.size s.tree.size true last.root s.proof) → HasLog H hash_length S D → TreeGoesOn H last s.tree s.proof
      → IsTreeOfFirst H D s.tree → IsTreeOfFirst H D last ⊎ CollideAmong H S
  goes_further last s D sound a strings log goes t =
      ⊎_elim
      (λ (l : IsTreeOfFirst H (take s.tree.size D) last). inl (lift H D s.tree.size last t.0 l))
      (λ (pair : CollideAmong H S). inr pair)
      (one_back last s.tree s.proof (take s.tree.size D) sound a strings (has_cut H hash_length S D s.tree.size t.0 log) goes (cut H D s.tree t))

  -- ---- a run, seen from its newest tree
  abbrev Behind : List (List ℕ) → Tree → List Granted → Type 0
  Behind D last steps = IsTreeOfFirst H D last × All (λ s. IsTreeOfFirst H D s.tree) steps

  own_strings : (last : Tree) (s : Granted) (steps : List Granted) → All S (granted_strings H last (s ∷ steps))
      → All S (proof_strings H last.size s.tree.size true last.root s.proof)
  unfolding granted_strings
  own_strings last s steps a = first_of S (proof_strings H last.size s.tree.size true last.root s.proof) (granted_strings H s.tree steps) a

  later_strings : (last : Tree) (s : Granted) (steps : List Granted) → All S (granted_strings H last (s ∷ steps)) → All S (granted_strings H s.tree steps)
  unfolding granted_strings
  later_strings last s steps a = second_of S (proof_strings H last.size s.tree.size true last.root s.proof) (granted_strings H s.tree steps) a

  run_back : (last : Tree) (steps : List Granted) (D : List (List ℕ)) → IsSound H last → AreGranted H last steps → All S (granted_strings H last steps) → HasLog H hash_length S D
      → IsTreeOf H D (newest_tree last steps) → Behind D last steps ⊎ CollideAmong H S
  unfolding AreGranted newest_tree
  run_back last [] D sound g strings log t = inl (whole H D last t, All-nil (λ s. IsTreeOfFirst H D s.tree))
  run_back last (s ∷ steps) D sound g strings log t =
      ⊎_elim
      (λ (r : Behind D s.tree steps).
      ⊎_elim
      (λ (l : IsTreeOfFirst H D last). inl (l, All-cons (λ z. IsTreeOfFirst H D z.tree) s steps r.0 r.1))
      (λ (pair : CollideAmong H S). inr pair)
      (goes_further last s D sound g.1 (own_strings last s steps strings) log g.0.1 r.0))
      (λ (pair : CollideAmong H S). inr pair)
      (run_back s.tree steps D (goes_sound H last s.tree s.proof sound g.0.1) g.2 (later_strings last s steps strings) log t)

  -- ---- a run, seen from one of its trees
  reach_back : (last : Tree) (steps : List Granted) (b : Tree) (D : List (List ℕ)) → IsSound H last → AreGranted H last steps → All S (granted_strings H last steps)
      → HasLog H hash_length S D → IsCosigned b steps → IsTreeOf H D b → IsTreeOfFirst H D last ⊎ CollideAmong H S
  unfolding AreGranted IsCosigned
  reach_back last [] b D sound g strings log c t = absurd c
  reach_back last (s ∷ steps) b D sound g strings log (inl e) t =
      let u : IsTreeOf H D s.tree = subst (IsTreeOf H D) e t in
      one_back last s.tree s.proof D sound g.1 (own_strings last s steps strings) log g.0.1 u
  reach_back last (s ∷ steps) b D sound g strings log (inr c) t =
      ⊎_elim
      (λ (u : IsTreeOfFirst H D s.tree). goes_further last s D sound g.1 (own_strings last s steps strings) log g.0.1 u)
      (λ (pair : CollideAmong H S). inr pair)
      (reach_back s.tree steps b D (goes_sound H last s.tree s.proof sound g.0.1) g.2 (later_strings last s steps strings) log c t)

  two : (last : Tree) (steps : List Granted) (a b : Tree) (D : List (List ℕ)) → IsSound H last → AreGranted H last steps → All S (granted_strings H last steps)
      → HasLog H hash_length S D → IsCosigned a steps → IsCosigned b steps → a.size ≤ b.size → IsTreeOf H D b → IsTreeOfFirst H D a ⊎ CollideAmong H S
  unfolding AreGranted IsCosigned
  two last [] a b D sound g strings log c d l t = absurd c
  two last (s ∷ steps) a b D sound g strings log (inl e) (inl f) l t = inl (whole H D a (subst (IsTreeOf H D) (f ∙ sym e) t))
  two last (s ∷ steps) a b D sound g strings log (inl e) (inr d) l t =
      ⊎_elim
      (λ (u : IsTreeOfFirst H D s.tree). inl (subst (IsTreeOfFirst H D) (sym e) u))
      (λ (pair : CollideAmong H S). inr pair)
      (reach_back s.tree steps b D (goes_sound H last s.tree s.proof sound g.0.1) g.2 (later_strings last s steps strings) log d t)
  two last (s ∷ steps) a b D sound g strings log (inr c) (inl f) l t =
      let i = reach_up H s.tree steps a g.2 c in
      let j : b.size ≡ s.tree.size = ap (λ (z : Tree). z.size) f in
      let k : a.size ≡ s.tree.size = omega (arith, i, j, l) in
      let r : a.root ≡ b.root = reach_same H s.tree steps a g.2 c k ∙ sym (ap (λ (z : Tree). z.root) f) in
      inl (whole H D a (k ∙ sym j ∙ t.0, r ∙ t.1))
  two last (s ∷ steps) a b D sound g strings log (inr c) (inr d) l t =
      two s.tree steps a b D (goes_sound H last s.tree s.proof sound g.0.1) g.2 (later_strings last s steps strings) log c d l t

  -- the trees that one witness cosigned, if S has the strings that it hashed
  pub all_back : (steps : List Granted) (D : List (List ℕ)) → AreGranted H (no_tree H) steps → All S (granted_strings H (no_tree H) steps) → HasLog H hash_length S D
      → IsTreeOf H D (newest_tree (no_tree H) steps) → All (λ s. IsTreeOfFirst H D s.tree) steps ⊎ CollideAmong H S
  all_back steps D w strings log t =
      ⊎_elim
      (λ r. inl r.1)
      (λ (pair : CollideAmong H S). inr pair)
      (run_back (no_tree H) steps D (λ z. refl) w strings log t)

  pub both_back : (steps : List Granted) → AreGranted H (no_tree H) steps → All S (granted_strings H (no_tree H) steps) → (a b : Tree) → IsCosigned a steps → IsCosigned b steps
      → a.size ≤ b.size → (D : List (List ℕ)) → HasLog H hash_length S D → IsTreeOf H D b → IsTreeOfFirst H D a ⊎ CollideAmong H S
  both_back steps w strings a b c d l D log t = two (no_tree H) steps a b D (λ z. refl) w strings log c d l t

-- the strings of a witness
module _ (H : List ℕ → List ℕ) (steps : List Granted) (D : List (List ℕ)) where
  granted : All (IsHashedOver H steps D) (granted_strings H (no_tree H) steps)
  granted = All-weaker (Contains (granted_strings H (no_tree H) steps)) (IsHashedOver H steps D) (λ s c. inl c) (granted_strings H (no_tree H) steps)
      (All-contains_itself (granted_strings H (no_tree H) steps))

pub cosigned_go_back : CosignedGoBack
cosigned_go_back H hash_length steps D w t =
    all_back H hash_length (IsHashedOver H steps D) steps D w (granted H steps D) (λ n l s z. inr (n, l, z)) t

pub cosigned_agree : CosignedAgree
cosigned_agree H hash_length steps w a b c d l D t =
    both_back H hash_length (IsHashedOver H steps D) steps w (granted H steps D) a b c d l D (λ n i s z. inr (n, i, z)) t
