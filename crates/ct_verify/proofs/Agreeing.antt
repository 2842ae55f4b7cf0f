-- Two paths from the same index to the same root: the leaf hashes are equal, or two of the hashed strings collide. S is a property that
-- these strings have.
use Rattle.std.proofs.Common.{◌≡◌, ℕ, ◌-◌, ◌<◌, ◌≤◌, refl, subst, sym, ◌∙◌, ap, ◌⊎◌, inl, inr, ⊎_elim, true, false, List, [], ◌∷◌, ◌++◌, length, reverse, Some}
use Rattle.std.specs.Prelude.{All}
use Rattle.std.specs.Str.{bytes_eq}
use Rattle.std.proofs.lemmas.Bool.{cases_Bool, both_ways, cases_lt}
use Rattle.std.proofs.lemmas.Slice.Eq.{bytes_eq-Decides}
use Rattle.std.proofs.lemmas.List.Elements.{All-nil, All-cons, All-append, All-head, All-tail}
use Rattle.ct_tree.specs.Tree.{split, hash_node}
use Rattle.ct_verify.proofs.Options.{none_some, same_some, mapped, reverse_first}
use Rattle.ct_verify.proofs.Rebuild.{rebuild_left, rebuild_right, rebuild_past, rebuild_short, rebuild_leaf}
use Rattle.ct_verify.proofs.Shown.{parts, parts_right, tail_same, rebuilt_length}
use Rattle.ct_verify.specs.Rebuild.{rebuild_down}
use Rattle.ct_verify.proofs.HashedStrings.{strings_left, strings_right}
use Rattle.ct_verify.specs.Hashed.{CollideAmong, path_strings_down}

pub all_reverse : {X : Type 0} (P : X → Type 0) (xs : List X) → All P xs → All P (reverse xs)
all_reverse P [] a = a
all_reverse P (x ∷ xs) a =
    rw (reverse_first x xs)
    (All-append P (reverse xs) (x ∷ []) (all_reverse P xs (All-tail P x xs a)) (All-cons P x [] (All-head P x xs a) (All-nil P)))

-- a collision among some strings is also a collision among more strings
pub collide_more : (H : List ℕ → List ℕ) (S T : List ℕ → Type 0) → ((x : List ℕ) → S x → T x) → CollideAmong H S → CollideAmong H T
collide_more H S T f c = (c.0, c.1, f c.0 c.2, f c.1 c.3, c.4)

pub same_or_not : (x y : List ℕ) → (x ≡ y) ⊎ (¬ (x ≡ y))
same_or_not x y =
    ⊎_elim
    (λ (t : bytes_eq x y ≡ true). inl ((bytes_eq-Decides x y).0 t))
    (λ (f : bytes_eq x y ≡ false). inr (λ s. both_ways (bytes_eq x y) f ((bytes_eq-Decides x y).1 s)))
    (cases_Bool (bytes_eq x y))

module _ (H : List ℕ → List ℕ) (S : List ℕ → Type 0) where
  -- two strings with the same hash
  pub one_hash : (x y : List ℕ) → S x → S y → H x ≡ H y → (x ≡ y) ⊎ CollideAmong H S
  one_hash x y sx sy e =
      ⊎_elim
      (λ (same : x ≡ y). inl same)
      (λ (other : ¬ (x ≡ y)). inr (x, y, sx, sy, (other, e)))
      (same_or_not x y)

  -- two nodes with the same hash, whose left or right parts are equally long
  pub left_nodes : (s y A B : List ℕ) → length s ≡ length A → S (1 ∷ s ++ y) → S (1 ∷ A ++ B) → hash_node H s y ≡ hash_node H A B → ((s ≡ A) × (y ≡ B)) ⊎ CollideAmong H S
  left_nodes s y A B l sx sy e =
      ⊎_elim
      (λ (u : 1 ∷ s ++ y ≡ 1 ∷ A ++ B). inl (parts s A y B l (tail_same 1 1 (s ++ y) (A ++ B) u)))
      (λ (pair : CollideAmong H S). inr pair)
      (one_hash (1 ∷ s ++ y) (1 ∷ A ++ B) sx sy e)

  pub right_nodes : (y s A B : List ℕ) → length s ≡ length B → S (1 ∷ y ++ s) → S (1 ∷ A ++ B) → hash_node H y s ≡ hash_node H A B → ((y ≡ A) × (s ≡ B)) ⊎ CollideAmong H S
  right_nodes y s A B l sx sy e =
      ⊎_elim
      (λ (u : 1 ∷ y ++ s ≡ 1 ∷ A ++ B). inl (parts_right y A s B l (tail_same 1 1 (y ++ s) (A ++ B) u)))
      (λ (pair : CollideAmong H S). inr pair)
      (one_hash (1 ∷ y ++ s) (1 ∷ A ++ B) sx sy e)

module _ (H : List ℕ → List ℕ) (hash_length : (x : List ℕ) → length (H x) ≡ 32) (S : List ℕ → Type 0) where
  pub agree : (p q : List (List ℕ)) (m n : ℕ) (h g r : List ℕ) → length h ≡ 32 → length g ≡ 32
      → All S (path_strings_down H m n h p) → All S (path_strings_down H m n g q)
      → rebuild_down H m n h p ≡ Some r → rebuild_down H m n g q ≡ Some r → ((h ≡ g) × (p ≡ q)) ⊎ CollideAmong H S
  agree [] [] m n h g r a b sp sq e f =
      ⊎_elim
      (λ (more : 1 < n). absurd (none_some r (sym (rebuild_short H m n h more) ∙ e)))
      (λ (few : n ≤ 1).
      let x : h ≡ r = same_some h r (sym (rebuild_leaf H m n h few) ∙ e) in
      let y : g ≡ r = same_some g r (sym (rebuild_leaf H m n g few) ∙ f) in
      inl (x ∙ sym y, refl))
      (cases_lt 1 n)
  agree [] (t ∷ q) m n h g r a b sp sq e f =
      ⊎_elim
      (λ (more : 1 < n). absurd (none_some r (sym (rebuild_short H m n h more) ∙ e)))
      (λ (few : n ≤ 1). absurd (none_some r (sym (rebuild_past H m n g t q few) ∙ f)))
      (cases_lt 1 n)
  agree (s ∷ p) [] m n h g r a b sp sq e f =
      ⊎_elim
      (λ (more : 1 < n). absurd (none_some r (sym (rebuild_short H m n g more) ∙ f)))
      (λ (few : n ≤ 1). absurd (none_some r (sym (rebuild_past H m n h s p few) ∙ e)))
      (cases_lt 1 n)
  agree (s ∷ p) (t ∷ q) m n h g r a b sp sq e f =
      ⊎_elim
      (λ (more : 1 < n). ⊎_elim
      (λ (low : m < split n).
      let k = split n in
      let u = mapped (λ x. hash_node H x s) (rebuild_down H m k h p) r (sym (rebuild_left H m n k h s p more refl low) ∙ e) in
      let v = mapped (λ x. hash_node H x t) (rebuild_down H m k g q) r (sym (rebuild_left H m n k g t q more refl low) ∙ f) in
      let i = subst (All S) (strings_left H m n k h s u.0 p refl low u.1) sp in
      let j = subst (All S) (strings_left H m n k g t v.0 q refl low v.1) sq in
      let l : length u.0 ≡ length v.0 = rebuilt_length H hash_length p m k h u.0 a u.1 ∙ sym (rebuilt_length H hash_length q m k g v.0 b v.1) in
      ⊎_elim
      (λ (same : (u.0 ≡ v.0) × (s ≡ t)).
      ⊎_elim
      (λ (below : (h ≡ g) × (p ≡ q)). inl (below.0, rw (same.1, below.1) refl))
      (λ (pair : CollideAmong H S). inr pair)
      (agree p q m k h g u.0 a b
      (All-tail S (1 ∷ u.0 ++ s) (path_strings_down H m k h p) i) (All-tail S (1 ∷ v.0 ++ t) (path_strings_down H m k g q) j)
      u.1 (v.1 ∙ ap Some (sym same.0))))
      (λ (pair : CollideAmong H S). inr pair)
      (left_nodes H S u.0 s v.0 t l (All-head S (1 ∷ u.0 ++ s) (path_strings_down H m k h p) i)
      (All-head S (1 ∷ v.0 ++ t) (path_strings_down H m k g q) j) (u.2 ∙ sym v.2)))
      (λ (high : split n ≤ m).
      let k = split n in
      let u = mapped (λ x. hash_node H s x) (rebuild_down H (m - k) (n - k) h p) r (sym (rebuild_right H m n k h s p more refl high) ∙ e) in
      let v = mapped (λ x. hash_node H t x) (rebuild_down H (m - k) (n - k) g q) r (sym (rebuild_right H m n k g t q more refl high) ∙ f) in
      let i = subst (All S) (strings_right H m n k h s u.0 p refl high u.1) sp in
      let j = subst (All S) (strings_right H m n k g t v.0 q refl high v.1) sq in
      let l : length u.0 ≡ length v.0 = rebuilt_length H hash_length p (m - k) (n - k) h u.0 a u.1 ∙ sym (rebuilt_length H hash_length q (m - k) (n - k) g v.0 b v.1) in
      ⊎_elim
      (λ (same : (s ≡ t) × (u.0 ≡ v.0)).
      ⊎_elim
      (λ (below : (h ≡ g) × (p ≡ q)). inl (below.0, rw (same.0, below.1) refl))
      (λ (pair : CollideAmong H S). inr pair)
      (agree p q (m - k) (n - k) h g u.0 a b
      (All-tail S (1 ∷ s ++ u.0) (path_strings_down H (m - k) (n - k) h p) i) (All-tail S (1 ∷ t ++ v.0) (path_strings_down H (m - k) (n - k) g q) j)
      u.1 (v.1 ∙ ap Some (sym same.1))))
      (λ (pair : CollideAmong H S). inr pair)
      (right_nodes H S s u.0 t v.0 l (All-head S (1 ∷ s ++ u.0) (path_strings_down H (m - k) (n - k) h p) i)
      (All-head S (1 ∷ t ++ v.0) (path_strings_down H (m - k) (n - k) g q) j) (u.2 ∙ sym v.2)))
      (cases_lt m (split n)))
      (λ (few : n ≤ 1). absurd (none_some r (sym (rebuild_past H m n h s p few) ∙ e)))
      (cases_lt 1 n)
