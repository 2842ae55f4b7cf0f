-- Consequences when enough of several witnesses cosigned a tree: any three groups that are large enough have a witness in common.
use Rattle.std.proofs.Common.{refl, zero, suc, subst, inl, inr, ⊎_elim, ◌≡◌, ℕ, ◌+◌, ◌-◌, ◌*◌, ◌<◌, ◌≤◌, sym, arith, cond, Bool, true, false, List, [], ◌∷◌, ◌++◌, length}
use Rattle.std.proofs.Common.{replicate}
use Rattle.std.specs.Prelude.{All, Contains, count_by, flat_map}
use Rattle.std.proofs.lemmas.List.{length-append, length-replicate}
use Rattle.std.proofs.lemmas.List.Elements.{All-nil, All-head, All-tail, All-weaker, Contains-append_right}
use Rattle.std.proofs.lemmas.List.Sums.{sum_by-cons}
use Rattle.ct_verify.proofs.Viewing.{in_left}
use Rattle.ct_verify.specs.Hashed.{CollideAmong}
use Rattle.ct_witness.proofs.Runs.{all_back, both_back}
use Rattle.ct_witness.specs.declared.tree.Tree.{Tree}
use Rattle.ct_witness.specs.Runs.{Granted, no_tree, AreGranted, IsWitness, newest_tree, IsCosigned, IsTreeOf, IsTreeOfFirst, granted_strings}
use Rattle.ct_witness.specs.Quorums.{AtLeast, AreMarked, MarksCount, IsHashedByAny, QuorumsAgree, StartsBehindNone, BoundIsExact}

-- ---- three groups of more than twice all together have one in common
module _ (P Q R : List Granted → Type 0) where
  abbrev Common : Type 0
  Common = (w : List Granted) × P w × Q w × R w

  pub common : (ws : List (List Granted)) (j k h : ℕ) → AtLeast P j ws → AtLeast Q k ws → AtLeast R h ws → 2 * length ws < j + k + h → Common
  unfolding AtLeast
  common [] j k h a b c l = absurd (omega (arith, a, b, c, l))
  common (w ∷ ws) j k h (inl a) (inl b) (inl c) l = (w, a.0, b.0, c.0)
  common (w ∷ ws) j k h (inl a) (inl b) (inr c) l = common ws (j - 1) (k - 1) h a.1 b.1 c (omega (arith, l))
  common (w ∷ ws) j k h (inl a) (inr b) (inl c) l = common ws (j - 1) k (h - 1) a.1 b c.1 (omega (arith, l))
  common (w ∷ ws) j k h (inl a) (inr b) (inr c) l = common ws (j - 1) k h a.1 b c (omega (arith, l))
  common (w ∷ ws) j k h (inr a) (inl b) (inl c) l = common ws j (k - 1) (h - 1) a b.1 c.1 (omega (arith, l))
  common (w ∷ ws) j k h (inr a) (inl b) (inr c) l = common ws j (k - 1) h a b.1 c (omega (arith, l))
  common (w ∷ ws) j k h (inr a) (inr b) (inl c) l = common ws j k (h - 1) a b c.1 (omega (arith, l))
  common (w ∷ ws) j k h (inr a) (inr b) (inr c) l = common ws j k h a b c (omega (arith, l))

-- ---- one group
module _ (P : List Granted → Type 0) where
  fewer : (ws : List (List Granted)) (k m : ℕ) → m ≤ k → AtLeast P k ws → AtLeast P m ws
  unfolding AtLeast
  fewer [] k m l a = omega (arith, l, a)
  fewer (w ∷ ws) k m l (inl a) = inl (a.0, fewer ws (k - 1) (m - 1) (omega (arith, l)) a.1)
  fewer (w ∷ ws) k m l (inr a) = inr (fewer ws k m l a)

  all_of : (n : ℕ) (w : List Granted) (ws : List (List Granted)) (m k : ℕ) → m ≡ n + k → P w → AtLeast P k ws → AtLeast P m (replicate n w ++ ws)
  unfolding AtLeast
  all_of zero w ws m k e p a = subst (λ i. AtLeast P i ws) (omega (arith, e)) a
  all_of (suc n) w ws m k e p a = inl (p, all_of n w ws (m - 1) k (omega (arith, e)) p a)

  none_of : (n : ℕ) (w : List Granted) (ws : List (List Granted)) (k : ℕ) → AtLeast P k ws → AtLeast P k (replicate n w ++ ws)
  unfolding AtLeast
  none_of zero w ws k a = a
  none_of (suc n) w ws k a = inr (none_of n w ws k a)

  of_none : AtLeast P 0 []
  unfolding AtLeast
  of_none = refl

-- ---- the marks
pub marks_count : MarksCount
unfolding AtLeast AreMarked
marks_count t [] [] k m l = omega (arith, l)
marks_count t [] (w ∷ ws) k m l = absurd m
marks_count t (mark ∷ marks) [] k m l = absurd m
marks_count t (true ∷ marks) (w ∷ ws) k m l =
    let e : count_by (λ mark. mark) (true ∷ marks) ≡ 1 + count_by (λ mark. mark) marks = sum_by-cons (λ (mark : Bool). cond mark 1 0) true marks in
    inl (m.0, marks_count t marks ws (k - 1) m.1 (omega (arith, l, e)))
marks_count t (false ∷ marks) (w ∷ ws) k m l =
    let e : count_by (λ mark. mark) (false ∷ marks) ≡ count_by (λ mark. mark) marks = refl in
    inr (marks_count t marks ws k m (omega (arith, l, e)))

-- the strings of each witness are among those of all
module _ (H : List ℕ → List ℕ) where
  abbrev pub Has : List (List Granted) → List Granted → Type 0
  Has ws w = All (Contains (flat_map (granted_strings H (no_tree H)) ws)) (granted_strings H (no_tree H) w)

  later : (v w : List Granted) (ws : List (List Granted)) → Has ws w → Has (v ∷ ws) w
  later v w ws a =
      All-weaker (Contains (flat_map (granted_strings H (no_tree H)) ws)) (Contains (flat_map (granted_strings H (no_tree H)) (v ∷ ws)))
      (λ x c. Contains-append_right (granted_strings H (no_tree H) v) (flat_map (granted_strings H (no_tree H)) ws) x c) (granted_strings H (no_tree H) w) a

  weaker_at : (P Q : List Granted → Type 0) → ((w : List Granted) → P w → Q w) → (k : ℕ) (ws : List (List Granted)) → AtLeast P k ws → AtLeast Q k ws
  unfolding AtLeast
  weaker_at P Q f k [] a = a
  weaker_at P Q f k (w ∷ ws) (inl a) = inl (f w a.0, weaker_at P Q f (k - 1) ws a.1)
  weaker_at P Q f k (w ∷ ws) (inr a) = inr (weaker_at P Q f k ws a)

  -- that many witnesses have the property, and their strings are among those of all
  pub with_strings_of : (P : List Granted → Type 0) (k : ℕ) (ws : List (List Granted)) → AtLeast P k ws → AtLeast (λ w. P w × Has ws w) k ws
  unfolding AtLeast
  with_strings_of P k [] a = a
  with_strings_of P k (w ∷ ws) (inl a) =
      inl (
        (a.0, in_left (granted_strings H (no_tree H) w) (flat_map (granted_strings H (no_tree H)) ws)),
        weaker_at (λ v. P v × Has ws v) (λ v. P v × Has (w ∷ ws) v) (λ v b. (b.0, later w v ws b.1)) (k - 1) ws (with_strings_of P (k - 1) ws a.1),
      )
  with_strings_of P k (w ∷ ws) (inr a) =
      inr (weaker_at (λ v. P v × Has ws v) (λ v. P v × Has (w ∷ ws) v) (λ v b. (b.0, later w v ws b.1)) k ws (with_strings_of P k ws a))

-- ---- the tree on which they agree
pub quorums_agree : QuorumsAgree
quorums_agree H hash_length ws f j k honest l a b c d less D t =
    let S = IsHashedByAny H ws D in
    let enough : 2 * length ws < j + k + (length ws - f) = omega (arith, l) in
    let w = common (λ v. IsCosigned a v × Has H ws v) (IsCosigned b) (IsWitness H) ws j k (length ws - f) (with_strings_of H (IsCosigned a) j ws c) d honest enough in
    let strings : All S (granted_strings H (no_tree H) w.0) =
    All-weaker (Contains (flat_map (granted_strings H (no_tree H)) ws)) S (λ s z. inl z) (granted_strings H (no_tree H) w.0) w.1.1 in
    both_back H hash_length S w.0 w.3 strings a b w.1.0 w.2 less D (λ n i s z. inr (n, i, z)) t

behind : (H : List ℕ → List ℕ) (D : List (List ℕ)) (a : Tree) (steps : List Granted) → All (λ s. IsTreeOfFirst H D s.tree) steps → IsCosigned a steps
    → IsTreeOfFirst H D a
unfolding IsCosigned
behind H D a [] all c = absurd c
behind H D a (s ∷ steps) all (inl e) = subst (IsTreeOfFirst H D) (sym e) (All-head (λ z. IsTreeOfFirst H D z.tree) s steps all)
behind H D a (s ∷ steps) all (inr c) = behind H D a steps (All-tail (λ z. IsTreeOfFirst H D z.tree) s steps all) c

pub starts_behind_none : StartsBehindNone
starts_behind_none H hash_length ws f j k honest l h a c d D t =
    let S = IsHashedByAny H ws D in
    let enough : 2 * length ws < j + k + (length ws - f) = omega (arith, l) in
    let P : List Granted → Type 0 = λ w. newest_tree (no_tree H) w ≡ h in
    let w = common (λ v. P v × Has H ws v) (IsCosigned a) (IsWitness H) ws j k (length ws - f) (with_strings_of H P j ws c) d honest enough in
    let u : IsTreeOf H D (newest_tree (no_tree H) w.0) = subst (IsTreeOf H D) (sym w.1.0) t in
    let strings : All S (granted_strings H (no_tree H) w.0) =
    All-weaker (Contains (flat_map (granted_strings H (no_tree H)) ws)) S (λ s z. inl z) (granted_strings H (no_tree H) w.0) w.1.1 in
    ⊎_elim
    (λ (all : All (λ s. IsTreeOfFirst H D s.tree) w.0). inl (behind H D a w.0 all w.2))
    (λ (pair : CollideAmong H S). inr pair)
    (all_back H hash_length S w.0 D w.3 strings (λ n i s z. inr (n, i, z)) u)

-- ---- if the bound is not kept: some cosigned only a, some only b, and the faulty ones both
module _ (H : List ℕ → List ℕ) where
  one : Tree → Granted
  one t = record { old = 0; tree = t; proof = [] }

  honest_one : (t : Tree) → 0 < t.size → IsWitness H (one t ∷ [])
  unfolding AreGranted one
  honest_one t some = ((refl, inr (inl (refl, some, refl))), All-nil (λ x. length x ≡ 32), tt)

  cosigned_one : (t : Tree) (steps : List Granted) → IsCosigned t (one t ∷ steps)
  unfolding IsCosigned one
  cosigned_one t steps = inl refl

  cosigned_two : (s t : Tree) → IsCosigned t (one s ∷ one t ∷ [])
  unfolding IsCosigned one
  cosigned_two s t = inr (inl refl)

pub bound_is_exact : BoundIsExact
bound_is_exact H n f j k jn kn above within a b some_a some_b =
    let A = one H a ∷ [] in
    let B = one H b ∷ [] in
    let C = one H a ∷ one H b ∷ [] in
    let c : List (List Granted) = replicate (j + k - n) C ++ [] in
    let bc : List (List Granted) = replicate (n - j) B ++ c in
    let all : List (List Granted) = replicate (n - k) A ++ bc in
    let size : length all ≡ n = simp (length-append, length-replicate) (omega arith) in
    let honest : AtLeast (IsWitness H) (n - k + (n - j)) all =
    all_of (IsWitness H) (n - k) A bc (n - k + (n - j)) (n - j) refl (honest_one H a some_a)
    (all_of (IsWitness H) (n - j) B c (n - j) 0 (omega arith) (honest_one H b some_b)
    (none_of (IsWitness H) (j + k - n) C [] 0 (of_none (IsWitness H)))) in
    let first : AtLeast (IsCosigned a) j all =
    all_of (IsCosigned a) (n - k) A bc j (j + k - n) (omega arith) (cosigned_one H a [])
    (none_of (IsCosigned a) (n - j) B c (j + k - n)
    (all_of (IsCosigned a) (j + k - n) C [] (j + k - n) 0 (omega arith) (cosigned_one H a (one H b ∷ [])) (of_none (IsCosigned a)))) in
    let second : AtLeast (IsCosigned b) k all =
    none_of (IsCosigned b) (n - k) A bc k
    (all_of (IsCosigned b) (n - j) B c k (j + k - n) (omega arith) (cosigned_one H b [])
    (all_of (IsCosigned b) (j + k - n) C [] (j + k - n) 0 (omega arith) (cosigned_two H a b) (of_none (IsCosigned b)))) in
    (all, size, fewer (IsWitness H) all (n - k + (n - j)) (length all - f) (omega (arith, size)) honest, first, second)
