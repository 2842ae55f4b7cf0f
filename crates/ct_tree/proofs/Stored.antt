-- The levels of a growing tree, and the levels after one more leaf.
use Rattle.std.proofs.Common.{◌≡◌, ℕ, zero, suc, ◌+◌, ◌-◌, ◌*◌, ◌/◌, ◌%◌, ◌^◌, ◌<◌, ◌≤◌, refl, subst, sym, ◌∙◌, ap, arith, List, [], ◌∷◌, ◌++◌, length, get_or}
use Rattle.std.proofs.Common.{⊎_elim}
use Rattle.std.proofs.lemmas.Bool.{cases_lt}
use Rattle.std.proofs.lemmas.List.{get_or_append_left, get_or_push, length-append, length_push}
use Rattle.std.proofs.lemmas.Nat.{pow_pos}
use Rattle.std.proofs.Math.Nat.{pow-suc}
use Rattle.ct_tree.proofs.Raised.{pow_more}
use Rattle.ct_tree.specs.Tree.{hash_node}
use Rattle.ct_tree.specs.Levels.{subtree}
use Rattle.ct_tree.specs.Stored.{Stores, IsWhole, HaveSameLevelsBut}

-- ---- numbers
pow_twice : (j : ℕ) → 2 ^ suc j ≡ 2 * 2 ^ j
pow_twice j = omega (arith, pow-suc 2 j)

halves : (a b p q : ℕ) → a * (2 * p) ≡ b * (2 * q) → a * p ≡ b * q
halves a b p q e = omega arith

odd_even : (i b q : ℕ) → 2 * i + 1 ≡ b * (2 * q) → ⊥
odd_even i b q e = omega arith

-- a power of two in a multiple of another one
low_power : (j k i b : ℕ) → (2 * i + 1) * 2 ^ j ≡ b * 2 ^ k → k ≤ j
low_power j zero i b e = omega arith
low_power zero (suc k) i b e =
    let f : b * 2 ^ suc k ≡ b * (2 * 2 ^ k) = rw (pow_twice k) refl in
    absurd (odd_even i b (2 ^ k) (omega (arith, e, f)))
low_power (suc j) (suc k) i b e =
    let r = low_power j k i b (halves (2 * i + 1) b (2 ^ j) (2 ^ k) (rw (pow_twice j, pow_twice k) at e)) in
    omega arith

two_inside : (i p n : ℕ) → (i + 1) * (2 * p) ≤ n → (2 * i + 1) * p ≤ n
two_inside i p n h = omega arith

two_inside_right : (i p n : ℕ) → (i + 1) * (2 * p) ≤ n → (2 * i + 1 + 1) * p ≤ n
two_inside_right i p n h = omega arith

ends_at : (i l p n : ℕ) → i < l → l * p ≤ n → (i + 1) * p ≤ n
ends_at i l p n h k =
    let e : l ≡ i + 1 + (l - (i + 1)) = omega arith in
    let m : (i + 1 + (l - (i + 1))) * p ≤ n = subst (λ (u : ℕ). u * p ≤ n) e k in
    omega arith

below_at : (i l p n : ℕ) → (i + 1) * p < n → n ≤ (l + 1) * p → i < l
below_at i l p n h k =
    ⊎_elim (λ (b : i < l). b)
    (λ (b : l ≤ i).
    let e : i ≡ l + (i - l) = omega arith in
    let m : (l + (i - l) + 1) * p < n = subst (λ (u : ℕ). (u + 1) * p < n) e h in
    absurd (omega arith))
    (cases_lt i l)

least_at : (k l p n : ℕ) → 0 < p → (k + 1) * p ≡ n → n ≤ (l + 1) * p → k ≤ l
least_at k l p n z e h =
    ⊎_elim
    (λ (b : l < k).
    let f : k ≡ l + 1 + (k - (l + 1)) = omega arith in
    let m : (l + 1 + (k - (l + 1)) + 1) * p ≡ n = subst (λ (u : ℕ). (u + 1) * p ≡ n) f e in
    absurd (omega arith))
    (λ (b : k ≤ l). b)
    (cases_lt l k)

past_at : (k l p n : ℕ) → 0 < p → (k + 1) * p ≡ n → k < l → n < (l + 1) * p
past_at k l p n z e h =
    let f : l ≡ k + 1 + (l - (k + 1)) = omega arith in
    let m : n < (k + 1 + (l - (k + 1)) + 1) * p = omega arith in
    subst (λ (u : ℕ). n < (u + 1) * p) (sym f) m

pub next_end : (j i n : ℕ) → (i + 1) * 2 ^ j ≡ n → i % 2 ≡ 1 → (i / 2 + 1) * 2 ^ (j + 1) ≡ n
next_end j i n e o =
    let k : i ≡ 2 * (i / 2) + 1 = omega arith in
    rw (pow_more j) (next_at (i / 2) (2 ^ j) n (rw k at e))
  where
    next_at : (k p n : ℕ) → (2 * k + 1 + 1) * p ≡ n → (k + 1) * (2 * p) ≡ n
    next_at k p n e = omega arith

pub left_end : (j i n : ℕ) → (i + 1) * 2 ^ j ≡ n → i % 2 ≡ 1 → (i - 1 + 1) * 2 ^ j < n
left_end j i n e o = left_below i (2 ^ j) n (pow_pos j) (omega (arith, o)) e
  where
    left_below : (i p n : ℕ) → 0 < p → 0 < i → (i + 1) * p ≡ n → (i - 1 + 1) * p < n
    left_below i p n z o e =
        let a : i - 1 + 1 ≡ i = omega arith in
        rw a (omega arith)

module _ (H : List ℕ → List ℕ) where
  subtree-push : (j i : ℕ) (D : List (List ℕ)) (x : List ℕ) → (i + 1) * 2 ^ j ≤ length D → subtree H j i (D ++ x ∷ []) ≡ subtree H j i D
  unfolding subtree
  subtree-push zero i D x h = get_or_append_left D (x ∷ []) [] i (omega arith)
  subtree-push (suc j) i D x h =
      let k : (i + 1) * (2 * 2 ^ j) ≤ length D = rw (pow_twice j) at h in
      rw (subtree-push j (2 * i) D x (two_inside i (2 ^ j) (length D) k), subtree-push j (2 * i + 1) D x (two_inside_right i (2 ^ j) (length D) k)) refl

  -- one leaf more
  pub stores_push : (above : List (List (List ℕ))) (D : List (List ℕ)) (x : List ℕ) → Stores H above D → IsWhole above D → Stores H above (D ++ x ∷ [])
  stores_push above D x s w =
      let n : length (D ++ x ∷ []) ≡ length D + 1 = length-append D (x ∷ []) in
      record {
        subtrees = λ l i h.
            s.subtrees l i h
            ∙ sym (subtree-push (l + 1) i D x (ends_at i (length (get_or above l [])) (2 ^ (l + 1)) (length D) h (s.within l)));
        within = λ l. omega (arith, n, s.within l);
        earlier = λ l. omega (arith, n, w l);
      }

  -- ---- the nodes that are read
  stored_is : (above : List (List (List ℕ))) (D : List (List ℕ)) (j i : ℕ) (v : List ℕ) → Stores H above D → (i + 1) * 2 ^ j < length D
      → (j ≡ 0 → v ≡ get_or D i []) → (0 < j → v ≡ get_or (get_or above (j - 1) []) i []) → v ≡ subtree H j i D
  unfolding subtree
  stored_is above D zero i v s h leaf inner = leaf refl
  stored_is above D (suc j) i v s h leaf inner =
      let e : j + 1 ≡ suc j = omega arith in
      let f : suc j - 1 ≡ j = omega arith in
      let inside : i < length (get_or above j []) =
      below_at i (length (get_or above j [])) (2 ^ (j + 1)) (length D) (subst (λ (u : ℕ). (i + 1) * 2 ^ u < length D) (sym e) h) (s.earlier j) in
      inner (omega arith) ∙ ap (λ (u : ℕ). get_or (get_or above u []) i []) f ∙ s.subtrees j i inside ∙ ap (λ (u : ℕ). subtree H u i D) e

  -- the same, of a slice of the lists
  pub stored_of : (slice above : List (List (List ℕ))) (D : List (List ℕ)) (j i : ℕ) (v : List ℕ) → slice ≡ above → Stores H above D
      → (i + 1) * 2 ^ j < length D → (j ≡ 0 → v ≡ get_or D i []) → (0 < j → v ≡ get_or (get_or slice (j - 1) []) i []) → v ≡ subtree H j i D
  stored_of slice above D j i v e s h leaf inner =
      stored_is above D j i v s h leaf (subst (λ (q : List (List (List ℕ))). 0 < j → v ≡ get_or (get_or q (j - 1) []) i []) e inner)

  -- ---- the roots that end with the last leaf
  -- one level with the right nodes
  record IsRight (list : List (List ℕ)) (level : ℕ) (D : List (List ℕ)) : Type 0 where
    subtrees : (index : ℕ) → index < length list → get_or list index [] ≡ subtree H (level + 1) index D
    within : length list * 2 ^ (level + 1) ≤ length D
    earlier : length D ≤ (length list + 1) * 2 ^ (level + 1)

  right_at : (above : List (List (List ℕ))) (D : List (List ℕ)) (l : ℕ) → Stores H above D → IsRight (get_or above l []) l D
  right_at above D l s = record { subtrees = s.subtrees l; within = s.within l; earlier = s.earlier l }

  right_push : (list : List (List ℕ)) (D : List (List ℕ)) (j k : ℕ) (v : List ℕ) → IsRight list j D → (k + 1) * 2 ^ (j + 1) ≡ length D
      → v ≡ subtree H (j + 1) k D → length list ≡ k → IsRight (list ++ v ∷ []) j D
  right_push list D j k v r e f g =
      let n : length (list ++ v ∷ []) ≡ k + 1 = length_push list v ∙ omega arith in
      record {
        subtrees = λ i h. ⊎_elim
            (λ (b : i < length list). get_or_append_left list (v ∷ []) [] i b ∙ r.subtrees i b)
            (λ (b : length list ≤ i).
            let o : length list ≡ i = omega (arith, n, h, b, g) in
            get_or_push list v [] i o ∙ f ∙ ap (λ (u : ℕ). subtree H (j + 1) u D) (sym g ∙ o))
            (cases_lt i (length list));
        within = subst (λ (u : ℕ). u * 2 ^ (j + 1) ≤ length D) (sym n) (omega (arith, e));
        earlier = subst (λ (u : ℕ). length D ≤ (u + 1) * 2 ^ (j + 1)) (sym n) (omega (arith, e));
      }

  -- the level's list after `put`, and the others
  pub stores_put : (lists above : List (List (List ℕ))) (D : List (List ℕ)) (j k : ℕ) (v : List ℕ) → Stores H above D
      → (k + 1) * 2 ^ (j + 1) ≡ length D → v ≡ subtree H (j + 1) k D → HaveSameLevelsBut j lists above
      → (length (get_or above j []) ≡ k → get_or lists j [] ≡ get_or above j [] ++ v ∷ [])
      → ((length (get_or above j []) ≡ k → ⊥) → get_or lists j [] ≡ get_or above j [])
      → Stores H lists D × (length D < (length (get_or lists j []) + 1) * 2 ^ (j + 1))
  stores_put lists above D j k v s e f others added there =
      let here = at_level in (
        record {
          subtrees = λ l. (at_each l).subtrees;
          within = λ l. (at_each l).within;
          earlier = λ l. (at_each l).earlier;
        },
        here.1,
      )
    where
      least : k ≤ length (get_or above j [])
      least = least_at k (length (get_or above j [])) (2 ^ (j + 1)) (length D) (pow_pos (j + 1)) e (s.earlier j)

      at_level : IsRight (get_or lists j []) j D × (length D < (length (get_or lists j []) + 1) * 2 ^ (j + 1))
      at_level = ⊎_elim
          (λ (b : k < length (get_or above j [])).
          let q : get_or lists j [] ≡ get_or above j [] = there (λ o. omega (arith, o, b)) in
          subst (λ (x : List (List ℕ)). IsRight x j D × (length D < (length x + 1) * 2 ^ (j + 1))) (sym q)
          (right_at above D j s, past_at k (length (get_or above j [])) (2 ^ (j + 1)) (length D) (pow_pos (j + 1)) e b))
          (λ (b : length (get_or above j []) ≤ k).
          let o : length (get_or above j []) ≡ k = omega (arith, least, b) in
          let q : get_or lists j [] ≡ get_or above j [] ++ v ∷ [] = added o in
          let n : length (get_or above j [] ++ v ∷ []) ≡ k + 1 = length_push (get_or above j []) v ∙ omega (arith, o) in
          subst (λ (x : List (List ℕ)). IsRight x j D × (length D < (length x + 1) * 2 ^ (j + 1))) (sym q) (
            right_push (get_or above j []) D j k v (right_at above D j s) e f o,
            past_at k (length (get_or above j [] ++ v ∷ [])) (2 ^ (j + 1)) (length D) (pow_pos (j + 1)) e (omega (arith, n)),
          ))
          (cases_lt k (length (get_or above j [])))

      elsewhere : (l : ℕ) → (l ≡ j → ⊥) → IsRight (get_or lists l []) l D
      elsewhere l o = subst (λ (x : List (List ℕ)). IsRight x l D) (sym (others l o)) (right_at above D l s)

      at_each : (l : ℕ) → IsRight (get_or lists l []) l D
      at_each l = ⊎_elim
          (λ (b : l < j). elsewhere l (λ o. omega (arith, o, b)))
          (λ (b : j ≤ l). ⊎_elim
          (λ (c : j < l). elsewhere l (λ o. omega (arith, o, c)))
          (λ (c : l ≤ j).
          let o : j ≡ l = omega (arith, b, c) in
          subst (λ (u : ℕ). IsRight (get_or lists u []) u D) o at_level.0)
          (cases_lt j l))
          (cases_lt l j)

  -- the walk ends at a level whose last node has no sibling
  pub whole_end : (above : List (List (List ℕ))) (D : List (List ℕ)) (j k : ℕ) → Stores H above D
      → ((l : ℕ) → l < j → length D < (length (get_or above l []) + 1) * 2 ^ (l + 1)) → (k + 1) * 2 ^ j ≡ length D → k % 2 ≡ 0 → IsWhole above D
  whole_end above D j k s w e o l = ⊎_elim (λ (b : l < j). w l b) (λ (b : j ≤ l). further b) (cases_lt l j)
    where
      further : j ≤ l → length D < (length (get_or above l []) + 1) * 2 ^ (l + 1)
      further b = ⊎_elim
          (λ (c : length D < (length (get_or above l []) + 1) * 2 ^ (l + 1)). c)
          (λ (c : (length (get_or above l []) + 1) * 2 ^ (l + 1) ≤ length D).
          let q : k + 1 ≡ 2 * (k / 2) + 1 = omega arith in
          let m : (k + 1) * 2 ^ j ≡ (length (get_or above l []) + 1) * 2 ^ (l + 1) = omega (arith, e, c, s.earlier l) in
          let low = low_power j (l + 1) (k / 2) (length (get_or above l []) + 1) (rw q at m) in
          absurd (omega (arith, low, b)))
          (cases_lt (length D) ((length (get_or above l []) + 1) * 2 ^ (l + 1)))

  pub joined_pair : (j i : ℕ) (D : List (List ℕ)) (left node v : List ℕ) → i % 2 ≡ 1
      → left ≡ subtree H j (i - 1) D → node ≡ subtree H j i D → v ≡ hash_node H left node → v ≡ subtree H (j + 1) (i / 2) D
  unfolding subtree
  joined_pair j i D left node v o e f g =
      let a : j + 1 ≡ suc j = omega arith in
      let b : 2 * (i / 2) ≡ i - 1 = omega arith in
      let c : 2 * (i / 2) + 1 ≡ i = omega arith in
      g ∙ rw (a, c, b, e, f) refl
