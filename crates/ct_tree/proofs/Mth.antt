-- The defining equations of MTH, and MTH one level up.
use Rattle.std.proofs.Common.{◌≡◌, ℕ, zero, suc, ◌-◌, ◌*◌, ◌<◌, ◌≤◌, ltb, refl, sym, ◌∙◌, ap, arith, List, [], ◌∷◌, length, take, drop, length-drop, ⊎_elim}
use Rattle.std.proofs.lemmas.Bool.{cond-false, lt-ltb, le-ltb, cases_lt}
use Rattle.std.proofs.lemmas.List.{length-take-le, take_rest}
use Rattle.ct_tree.proofs.Split.{split_pos, split_lt, split_half, split_two, split_up, split_induct, up}
use Rattle.ct_tree.specs.Tree.{split, hash_node, mth_within, mth}
use Rattle.ct_tree.specs.Levels.{level}

pub length_left : {X : Type 0} (D : List X) → 1 < length D → length (take (split (length D)) D) ≡ split (length D)
length_left D h = length-take-le (split (length D)) D (omega (arith, split_lt (length D) h))

mth_enough : (H : List ℕ → List ℕ) (d e : ℕ) (D : List (List ℕ)) → length D ≤ suc d → length D ≤ suc e → mth_within H d D ≡ mth_within H e D
unfolding mth_within
mth_enough H zero zero D p q = refl
mth_enough H zero (suc e) D p q = sym (cond-false (ltb 1 (length D)) _ _ (le-ltb 1 (length D) p))
mth_enough H (suc d) zero D p q = cond-false (ltb 1 (length D)) _ _ (le-ltb 1 (length D) q)
mth_enough H (suc d) (suc e) D p q =
    ⊎_elim
    (λ h. let l = mth_enough H d e (take (split (length D)) D) (omega (arith, length_left D h, split_lt (length D) h))
    (omega (arith, length_left D h, split_lt (length D) h)) in
    let r = mth_enough H d e (drop (split (length D)) D) (omega (arith, length-drop (split (length D)) D, split_pos (length D) h))
    (omega (arith, length-drop (split (length D)) D, split_pos (length D) h)) in
    rw (l, r) refl)
    (λ h. rw (le-ltb 1 (length D) h) refl)
    (cases_lt 1 (length D))

pub mth-nil : (H : List ℕ → List ℕ) → mth H [] ≡ H []
unfolding mth mth_within
mth-nil H = refl

pub mth-one : (H : List ℕ → List ℕ) (x : List ℕ) → mth H (x ∷ []) ≡ x
unfolding mth mth_within
mth-one H x = refl

pub mth-split : (H : List ℕ → List ℕ) (D : List (List ℕ)) → 1 < length D
    → mth H D ≡ hash_node H (mth H (take (split (length D)) D)) (mth H (drop (split (length D)) D))
unfolding mth mth_within
mth-split H D h =
    mth_enough H (length D) (suc (length D)) D (omega arith) (omega arith)
    ∙ (rw (lt-ltb 1 (length D) h)
    (let l = mth_enough H (length D) (length (take (split (length D)) D)) (take (split (length D)) D)
    (omega (arith, length_left D h, split_lt (length D) h)) (omega arith) in
    let r = mth_enough H (length D) (length (drop (split (length D)) D)) (drop (split (length D)) D)
    (omega (arith, length-drop (split (length D)) D)) (omega arith) in
    rw (l, r) refl))

-- the same for a split that is given by an equation
pub mth-split_at : (H : List ℕ → List ℕ) (D : List (List ℕ)) (k : ℕ) → 1 < length D → split (length D) ≡ k
    → mth H D ≡ hash_node H (mth H (take k D)) (mth H (drop k D))
mth-split_at H D k h e = rw (← e) (mth-split H D h)

-- ---- one level up
pub length_level : (H : List ℕ → List ℕ) (D : List (List ℕ)) → length (level H D) ≡ up (length D)
unfolding level
length_level H [] = refl
length_level H (x ∷ []) = refl
length_level H (x ∷ y ∷ rest) = omega (arith, length_level H rest)

take_nil : {X : Type 0} (j : ℕ) → take {A = X} j [] ≡ []
take_nil zero = refl
take_nil (suc j) = refl

drop_nil : {X : Type 0} (j : ℕ) → drop {A = X} j [] ≡ []
drop_nil zero = refl
drop_nil (suc j) = refl

twice_suc : (j : ℕ) → 2 * suc j ≡ suc (suc (2 * j))
twice_suc j = omega arith

pub take-level : (H : List ℕ → List ℕ) (j : ℕ) (D : List (List ℕ)) → take j (level H D) ≡ level H (take (2 * j) D)
unfolding level
take-level H zero D = refl
take-level H (suc j) [] = rw (twice_suc j) refl
take-level H (suc j) (x ∷ []) = rw (twice_suc j) (ap (λ r. x ∷ r) (take_nil j))
take-level H (suc j) (x ∷ y ∷ rest) = rw (twice_suc j) (ap (λ r. hash_node H x y ∷ r) (take-level H j rest))

pub drop-level : (H : List ℕ → List ℕ) (j : ℕ) (D : List (List ℕ)) → drop j (level H D) ≡ level H (drop (2 * j) D)
unfolding level
drop-level H zero D = refl
drop-level H (suc j) [] = rw (twice_suc j) refl
drop-level H (suc j) (x ∷ []) = rw (twice_suc j) (drop_nil j)
drop-level H (suc j) (x ∷ y ∷ rest) = rw (twice_suc j) (drop-level H j rest)

pub level_small : (H : List ℕ → List ℕ) (D : List (List ℕ)) → length D ≤ 1 → level H D ≡ D
unfolding level
level_small H [] h = refl
level_small H (x ∷ []) h = refl
level_small H (x ∷ y ∷ rest) h = absurd (omega arith)

level_two : (H : List ℕ → List ℕ) (D : List (List ℕ)) → length D ≡ 2 → mth H D ≡ mth H (level H D)
unfolding level
level_two H [] e = absurd (omega arith)
level_two H (x ∷ []) e = absurd (omega arith)
level_two H (x ∷ y ∷ z ∷ rest) e = absurd (omega arith)
level_two H (x ∷ y ∷ []) e =
    mth-split_at H (x ∷ y ∷ []) 1 (omega arith) split_two
    ∙ rw (mth-one H x, mth-one H y) (sym (mth-one H (hash_node H x y)))

-- MTH of the list equals MTH of the list one level up, for a list D of more than two leaves
level_more : (H : List ℕ → List ℕ) (D : List (List ℕ)) → 2 < length D
    → mth H (take (split (length D)) D) ≡ mth H (level H (take (split (length D)) D))
    → mth H (drop (split (length D)) D) ≡ mth H (level H (drop (split (length D)) D))
    → mth H D ≡ mth H (level H D)
level_more H D h left right =
    let k = split (up (length D)) in
    let e : split (length D) ≡ 2 * k = split_up (length D) h in
    let f : split (length (level H D)) ≡ k = ap split (length_level H D) in
    let g : 1 < length (level H D) = omega (arith, length_level H D) in
    mth-split H D (omega arith)
    ∙ rw (left, right, e) (rw (mth-split_at H (level H D) k g f, take-level H k D, drop-level H k D) refl)

mth-level_at : (H : List ℕ → List ℕ) (n : ℕ) (D : List (List ℕ)) → length D ≡ n → 1 < n → mth H D ≡ mth H (level H D)
mth-level_at H =
    split_induct (λ n. (D : List (List ℕ)) → length D ≡ n → 1 < n → mth H D ≡ mth H (level H D))
    (λ D e h. absurd (omega arith)) (λ D e h. absurd (omega arith))
    (λ n h left right D e g. ⊎_elim
    (λ (more : 2 < n). level_more H D (omega arith)
    (left (take (split (length D)) D) (length_left D (omega arith) ∙ ap split e) (omega (arith, split_half n h)))
    (⊎_elim
    (λ (some : 1 < n - split n). right (drop (split (length D)) D) (rw e (omega (arith, length-drop (split n) D))) some)
    (λ (one : n - split n ≤ 1). sym (ap (mth H) (level_small H (drop (split (length D)) D) (omega (arith, length-drop (split (length D)) D, ap split e)))))
    (cases_lt 1 (n - split n))))
    (λ (two : n ≤ 2). level_two H D (omega arith))
    (cases_lt 2 n))

pub mth-level : (H : List ℕ → List ℕ) (D : List (List ℕ)) → 1 < length D → mth H D ≡ mth H (level H D)
mth-level H D h = mth-level_at H (length D) D refl h

-- a root computed from the roots of the two parts
pub root_joined : (H : List ℕ → List ℕ) (D : List (List ℕ)) (k : ℕ) (l r v : List ℕ) → 1 < length D → k ≡ split (length D)
    → l ≡ mth H (take k D) → r ≡ mth H (take (length D - k) (drop k D)) → v ≡ hash_node H l r → v ≡ mth H D
root_joined H D k l r v h e f g i =
    i ∙ rw (f, g) (ap (λ q. hash_node H (mth H (take k D)) (mth H q)) (take_rest D k)) ∙ sym (mth-split_at H D k h (sym e))
