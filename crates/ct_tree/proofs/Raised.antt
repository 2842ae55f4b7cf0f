-- The levels of a tree. Except for the last one, the nodes of a level are the roots of perfect subtrees.
use Rattle.std.proofs.Common.{◌≡◌, ℕ, zero, suc, ◌+◌, ◌-◌, ◌*◌, ◌/◌, ◌%◌, ◌^◌, ◌<◌, ◌≤◌, ltb, refl, subst, sym, ◌∙◌, ap, arith, add-one, List, [], ◌∷◌, ◌++◌}
use Rattle.std.proofs.Common.{length, take, get_or, ⊎_elim}
use Rattle.std.proofs.lemmas.Bool.{cases_lt, lt-ltb, le-ltb, cond-true, cond-false}
use Rattle.std.proofs.lemmas.List.{get_or-take, length-take, append_assoc}
use Rattle.std.proofs.Math.Nat.{pow-suc}
use Rattle.ct_tree.proofs.Mth.{length_level, mth-level, mth-one}
use Rattle.ct_tree.proofs.Path.{path-up_at, path-lone_at}
use Rattle.ct_tree.specs.Tree.{hash_node, mth, path}
use Rattle.ct_tree.specs.Levels.{level, raised, subtree, beside, node_or_edge}

module _ (H : List ℕ → List ℕ) where
  -- ---- the nodes of the next level
  pub get-level : (D : List (List ℕ)) (i : ℕ) (d : List ℕ) → 2 * i + 1 < length D
      → get_or (level H D) i d ≡ hash_node H (get_or D (2 * i) d) (get_or D (2 * i + 1) d)
  unfolding level
  get-level [] i d h = absurd (omega arith)
  get-level (x ∷ []) i d h = absurd (omega arith)
  get-level (x ∷ y ∷ D) zero d h = refl
  get-level (x ∷ y ∷ D) (suc i) d h =
      let a : 2 * suc i ≡ suc (suc (2 * i)) = omega arith in
      let b : 2 * suc i + 1 ≡ suc (suc (2 * i + 1)) = omega arith in
      rw (b, a) (get-level D i d (omega arith))

  pub get-level_last : (D : List (List ℕ)) (i : ℕ) (d : List ℕ) → 2 * i + 1 ≡ length D → get_or (level H D) i d ≡ get_or D (2 * i) d
  unfolding level
  get-level_last [] i d h = absurd (omega arith)
  get-level_last (x ∷ []) zero d h = refl
  get-level_last (x ∷ []) (suc i) d h = absurd (omega arith)
  get-level_last (x ∷ y ∷ D) zero d h = absurd (omega arith)
  get-level_last (x ∷ y ∷ D) (suc i) d h =
      let a : 2 * suc i ≡ suc (suc (2 * i)) = omega arith in
      rw a (get-level_last D i d (omega arith))

  pub raised-suc : (j : ℕ) (D : List (List ℕ)) → raised H (j + 1) D ≡ level H (raised H j D)
  unfolding raised
  raised-suc j D = rw add-one refl

  -- ---- the length of a level, by the index of its last node
  pub length-raised : (j l : ℕ) (D : List (List ℕ)) → length (raised H j D) ≡ l + 1 → length (raised H (j + 1) D) ≡ l / 2 + 1
  length-raised j l D e = rw (raised-suc j D) (length_level H (raised H j D) ∙ omega arith)

  -- ---- MTH
  pub mth-raised_step : (j : ℕ) (D : List (List ℕ)) → 1 < length (raised H j D) → mth H (raised H j D) ≡ mth H (raised H (j + 1) D)
  mth-raised_step j D h = mth-level H (raised H j D) h ∙ ap (mth H) (sym (raised-suc j D))

  pub mth-single : (D : List (List ℕ)) (d : List ℕ) → length D ≡ 1 → mth H D ≡ get_or D 0 d
  mth-single [] d e = absurd (omega arith)
  mth-single (x ∷ []) d e = mth-one H x
  mth-single (x ∷ y ∷ D) d e = absurd (omega arith)

  -- ---- each node except the last one is the root of a perfect subtree
  pub get-raised : (j l n i : ℕ) (D : List (List ℕ)) → length (raised H j (take n D)) ≡ l + 1 → i < l → get_or (raised H j (take n D)) i [] ≡ subtree H j i D
  unfolding raised subtree
  get-raised zero l n i D e h = get_or-take n D i [] (omega (arith, length-take n D))
  get-raised (suc j) l n i D e h = by_length (λ c i' e' h'. get-raised j c n i' D e' h') (length (raised H j (take n D))) refl
    where
      by_length : ((c i' : ℕ) → length (raised H j (take n D)) ≡ c + 1 → i' < c → get_or (raised H j (take n D)) i' [] ≡ subtree H j i' D) → (c : ℕ)
          → length (raised H j (take n D)) ≡ c → get_or (level H (raised H j (take n D))) i [] ≡ hash_node H (subtree H j (2 * i) D) (subtree H j (2 * i + 1) D)
      by_length ih zero f = absurd (omega (arith, length_level H (raised H j (take n D))))
      by_length ih (suc c) f =
          let g : length (raised H j (take n D)) ≡ c + 1 = omega arith in
          let k : 2 * i + 1 < c = omega (arith, length_level H (raised H j (take n D))) in
          get-level (raised H j (take n D)) i [] (omega arith)
          ∙ rw (ih c (2 * i) g (omega arith), ih c (2 * i + 1) g k) refl

  -- ---- the last node, one level up
  pub edge-odd : (j l n : ℕ) (D : List (List ℕ)) (edge left : List ℕ) → length (raised H j (take n D)) ≡ l + 1 → l % 2 ≡ 1
      → get_or (raised H j (take n D)) l [] ≡ edge → left ≡ subtree H j (l - 1) D
      → get_or (raised H (j + 1) (take n D)) (l / 2) [] ≡ hash_node H left edge
  edge-odd j l n D edge left e o f g =
      let a : 2 * (l / 2) ≡ l - 1 = omega arith in
      let b : 2 * (l / 2) + 1 ≡ l = omega arith in
      rw (raised-suc j (take n D))
      (get-level (raised H j (take n D)) (l / 2) [] (omega arith)
      ∙ rw (b, a) (rw (f, get-raised j l n (l - 1) D e (omega arith), g) refl))

  pub edge-even : (j l n : ℕ) (D : List (List ℕ)) (edge : List ℕ) → length (raised H j (take n D)) ≡ l + 1 → l % 2 ≡ 0
      → get_or (raised H j (take n D)) l [] ≡ edge → get_or (raised H (j + 1) (take n D)) (l / 2) [] ≡ edge
  edge-even j l n D edge e o f =
      let a : 2 * (l / 2) ≡ l = omega arith in
      rw (raised-suc j (take n D)) (get-level_last (raised H j (take n D)) (l / 2) [] (omega arith) ∙ rw a f)

  -- the last node of the next level, however it is computed
  pub edge_up : (j l n : ℕ) (D : List (List ℕ)) (edge next : List ℕ) → length (raised H j (take n D)) ≡ l + 1
      → get_or (raised H j (take n D)) l [] ≡ edge → (l % 2 ≡ 1 → next ≡ hash_node H (subtree H j (l - 1) D) edge) → (l % 2 ≡ 0 → next ≡ edge)
      → get_or (raised H (j + 1) (take n D)) (l / 2) [] ≡ next
  edge_up j l n D edge next e f joined lone =
      ⊎_elim
      (λ (z : l % 2 < 1). edge-even j l n D edge e (omega arith) f ∙ sym (lone (omega arith)))
      (λ (o : 1 ≤ l % 2). edge-odd j l n D edge (subtree H j (l - 1) D) e (omega arith) f refl ∙ sym (joined (omega arith)))
      (cases_lt (l % 2) 1)

  -- ---- PATH, one level up
  pub path-raised : (j l m n : ℕ) (D : List (List ℕ)) (s : List ℕ) → length (raised H j (take n D)) ≡ l + 1 → m + 1 < l + 1 + m % 2
      → get_or (raised H j (take n D)) (m + 1 - 2 * (m % 2)) [] ≡ s
      → path H m (raised H j (take n D)) ≡ s ∷ path H (m / 2) (raised H (j + 1) (take n D))
  path-raised j l m n D s e c f =
      path-up_at H [] (l + 1) m (raised H j (take n D)) e c
      ∙ rw (f, raised-suc j (take n D)) refl

  pub path-raised_lone : (j l m n : ℕ) (D : List (List ℕ)) → length (raised H j (take n D)) ≡ l + 1 → m % 2 ≡ 0 → m ≡ l → 0 < l
      → path H m (raised H j (take n D)) ≡ path H (m / 2) (raised H (j + 1) (take n D))
  path-raised_lone j l m n D e o g z =
      path-lone_at H (l + 1) m (raised H j (take n D)) e o (omega arith) (omega arith)
      ∙ rw (raised-suc j (take n D)) refl

-- ---- numbers of the walk
pub pow_more : (j : ℕ) → 2 ^ (j + 1) ≡ 2 * 2 ^ j
pow_more j = rw add-one (omega (arith, pow-suc 2 j))

inside_at : (q r n p : ℕ) → (2 * q + r + 1) * p < n + p → (q + 1) * (2 * p) < n + 2 * p
inside_at q r n p h = omega arith

pub inside_up : (l n j : ℕ) → (l + 1) * 2 ^ j < n + 2 ^ j → (l / 2 + 1) * 2 ^ (j + 1) < n + 2 ^ (j + 1)
inside_up l n j h =
    let e : l ≡ 2 * (l / 2) + l % 2 = omega arith in
    let k : (2 * (l / 2) + l % 2 + 1) * 2 ^ j < n + 2 ^ j = subst (λ (u : ℕ). (u + 1) * 2 ^ j < n + 2 ^ j) e h in
    rw (pow_more j) (inside_at (l / 2) (l % 2) n (2 ^ j) k)

pub subtree-zero : (H : List ℕ → List ℕ) (j i : ℕ) (D : List (List ℕ)) → j ≡ 0 → subtree H j i D ≡ get_or D i []
unfolding subtree
subtree-zero H j i D e = rw e refl

pub raised-zero : (H : List ℕ → List ℕ) (D : List (List ℕ)) → raised H 0 D ≡ D
unfolding raised
raised-zero H D = refl

-- ---- the sibling that the code finds
pub sibling_is : (H : List ℕ → List ℕ) (j l m n : ℕ) (D : List (List ℕ)) (edge s : List ℕ) → length (raised H j (take n D)) ≡ l + 1
    → get_or (raised H j (take n D)) l [] ≡ edge → m + 1 < l + 1 + m % 2
    → s ≡ node_or_edge H j (beside m) l edge D
    → path H m (raised H j (take n D)) ≡ s ∷ path H (m / 2) (raised H (j + 1) (take n D))
sibling_is H j l m n D edge s e f c g =
    path-raised H j l m n D s e c
    (⊎_elim
    (λ (h : beside m < l). get-raised H j l n (beside m) D e h ∙ sym (g ∙ cond-true (ltb (beside m) l) (subtree H j (beside m) D) edge (lt-ltb (beside m) l h)))
    (λ (h : l ≤ beside m).
    let i : beside m ≡ l = omega arith in
    ap (λ (u : ℕ). get_or (raised H j (take n D)) u []) i ∙ f ∙ sym (g ∙ cond-false (ltb (beside m) l) (subtree H j (beside m) D) edge (le-ltb (beside m) l h)))
    (cases_lt (beside m) l))

pub joined_on : (p q r S R : List (List ℕ)) (s : List ℕ) → S ≡ p ++ R → R ≡ s ∷ r → q ≡ p ++ s ∷ [] → S ≡ q ++ r
joined_on p q r S R s e f g = e ∙ ap (λ x. p ++ x) f ∙ sym (append_assoc p (s ∷ []) r) ∙ ap (λ x. x ++ r) (sym g)
