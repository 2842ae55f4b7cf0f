-- A path in an older tree and a consistency proof to a newer one yield a path in the newer one, which hashes no other strings; or two of
-- the hashed strings collide. S is a property that these strings have.
use Rattle.std.proofs.Common.{◌≡◌, ℕ, ◌-◌, ◌<◌, ◌≤◌, refl, subst, sym, ◌∙◌, ap, arith, ◌⊎◌, inl, inr, ⊎_elim, Bool, true, false, List, [], ◌∷◌, ◌++◌, length, Some}
use Rattle.std.specs.Prelude.{All}
use Rattle.std.specs.Option.{option_map}
use Rattle.std.proofs.lemmas.Bool.{both_ways, cases_lt}
use Rattle.std.proofs.lemmas.List.Elements.{All-cons, All-head, All-tail}
use Rattle.ct_tree.proofs.Split.{split_pos}
use Rattle.ct_tree.specs.Tree.{split, hash_node}
use Rattle.ct_verify.proofs.Both.{both-left, both-right, both-end, both-end_whole, both-whole}
use Rattle.ct_verify.proofs.Options.{none_some, mapped}
use Rattle.ct_verify.proofs.Rebuild.{rebuild_left, rebuild_right, rebuild_short}
use Rattle.ct_verify.proofs.Shown.{rebuilt_length}
use Rattle.ct_verify.proofs.Walking.{one_pair, split_within}
use Rattle.ct_verify.specs.Climb.{pair_left, pair_right}
use Rattle.ct_verify.specs.Laws.{AreHashes}
use Rattle.ct_verify.specs.Rebuild.{rebuild_down, both_down}
use Rattle.ct_verify.proofs.Agreeing.{left_nodes}
use Rattle.ct_verify.proofs.HashedStrings.{strings_left, strings_right, both_strings_left, both_strings_right}
use Rattle.ct_verify.specs.Hashed.{CollideAmong, path_strings_down, proof_strings_down}

abbrev Is32 : List ℕ → Type 0
Is32 x = length x ≡ 32

module _ (H : List ℕ → List ℕ) where
  -- if both trees are the same, both roots are the root that is known or given
  pub whole_end : (n : ℕ) (b : Bool) (r x y : List ℕ) → both_down H n n b r [] ≡ Some (x, y) → (x ≡ r) × (y ≡ r) × (b ≡ true)
  whole_end n true r x y e =
      let z = one_pair H r x y [] (sym (both-end_whole H n n true r (omega arith)) ∙ e) in
      (z.0, z.1, refl)
  whole_end n false r x y e = absurd (none_some (x, y) (sym (both-end_whole H n n false r (omega arith)) ∙ e))

  pub whole_given : (n : ℕ) (b : Bool) (r s x y : List ℕ) (q : List (List ℕ)) → both_down H n n b r (s ∷ q) ≡ Some (x, y) → (x ≡ s) × (y ≡ s)
  whole_given n true r s x y q e = absurd (none_some (x, y) (sym (both-whole H n n true r s q (omega arith)) ∙ e))
  whole_given n false r s x y q e = one_pair H s x y q (sym (both-whole H n n false r s q (omega arith)) ∙ e)

module _ (H : List ℕ → List ℕ) (hash_length : (x : List ℕ) → length (H x) ≡ 32) where
  -- the newer root has 32 bytes
  second_length : (p : List (List ℕ)) (m n : ℕ) (b : Bool) (r x y : List ℕ) → AreHashes p → (b ≡ true → Is32 r) → m ≤ n
      → both_down H m n b r p ≡ Some (x, y) → Is32 y
  second_length [] m n b r x y a known l e =
      ⊎_elim
      (λ (less : m < n). absurd (none_some (x, y) (sym (both-end H m n b r less) ∙ e)))
      (λ (all : n ≤ m).
      let f : m ≡ n = omega arith in
      let z = whole_end H n b r x y (ap (λ i. both_down H i n b r []) (sym f) ∙ e) in
      ap length z.1 ∙ known z.2)
      (cases_lt m n)
  second_length (s ∷ q) m n b r x y a known l e =
      ⊎_elim
      (λ (less : m < n). ⊎_elim
      (λ (high : split n < m).
      let u = mapped (λ z. pair_right H z s) (both_down H (m - split n) (n - split n) false r q) (x, y) (sym (both-right H m n (split n) b r s q less refl high) ∙ e) in
      ap length (sym (ap (λ (z : List ℕ × List ℕ). z.1) u.2)) ∙ hash_length (1 ∷ s ++ u.0.1))
      (λ (low : m ≤ split n).
      let u = mapped (λ z. pair_left H z s) (both_down H m (split n) b r q) (x, y) (sym (both-left H m n (split n) b r s q less refl low) ∙ e) in
      ap length (sym (ap (λ (z : List ℕ × List ℕ). z.1) u.2)) ∙ hash_length (1 ∷ u.0.1 ++ s))
      (cases_lt (split n) m))
      (λ (all : n ≤ m).
      let f : m ≡ n = omega arith in
      let z = whole_given H n b r s x y q (ap (λ i. both_down H i n b r (s ∷ q)) (sym f) ∙ e) in
      ap length z.1 ∙ All-head Is32 s q a)
      (cases_lt m n)

module _ (H : List ℕ → List ℕ) (hash_length : (x : List ℕ) → length (H x) ≡ 32) (S : List ℕ → Type 0) where
  -- a path, read from the root down, from the leaf hash h at index i of n leaves to the root y; S has its strings
  abbrev pub Leads : ℕ → ℕ → List ℕ → List ℕ → Type 0
  Leads i n h y = (q : List (List ℕ)) × AreHashes q × All S (path_strings_down H i n h q) × (rebuild_down H i n h q ≡ Some y)

  abbrev Extends : ℕ → ℕ → List ℕ → List ℕ → Type 0
  Extends i n h y = Leads i n h y ⊎ CollideAmong H S

  -- one step up, if the path is in the left part or in the right part
  up_left : (i n : ℕ) (h y s : List ℕ) → 1 < n → i < split n → Is32 s → S (1 ∷ y ++ s) → Leads i (split n) h y → Leads i n h (hash_node H y s)
  up_left i n h y s more low l sy w =
      let below = ap (option_map (λ r. hash_node H r s)) w.3 in (
        s ∷ w.0,
        All-cons Is32 s w.0 l w.1,
        subst (All S) (sym (strings_left H i n (split n) h s y w.0 refl low w.3)) (All-cons S (1 ∷ y ++ s) (path_strings_down H i (split n) h w.0) sy w.2),
        rebuild_left H i n (split n) h s w.0 more refl low ∙ below,
      )

  up_right : (i n : ℕ) (h y s : List ℕ) → 1 < n → split n ≤ i → Is32 s → S (1 ∷ s ++ y) → Leads (i - split n) (n - split n) h y → Leads i n h (hash_node H s y)
  up_right i n h y s more high l sy w =
      let below = ap (option_map (λ r. hash_node H s r)) w.3 in (
        s ∷ w.0,
        All-cons Is32 s w.0 l w.1,
        subst (All S) (sym (strings_right H i n (split n) h s y w.0 refl high w.3)) (All-cons S (1 ∷ s ++ y) (path_strings_down H (i - split n) (n - split n) h w.0) sy w.2),
        rebuild_right H i n (split n) h s w.0 more refl high ∙ below,
      )

  -- the statement about a proof p, shown by recursion on it
  abbrev Extending : List (List ℕ) → Type 0
  Extending p =
      (q : List (List ℕ)) (m n i : ℕ) (b : Bool) (r x y h : List ℕ) → AreHashes p → AreHashes q → (b ≡ true → Is32 r) → Is32 h → i < m → m ≤ n
      → both_down H m n b r p ≡ Some (x, y) → rebuild_down H i m h q ≡ Some x
      → All S (proof_strings_down H m n b r p) → All S (path_strings_down H i m h q) → Extends i n h y

  in_right : (p : List (List ℕ)) → Extending p → (q : List (List ℕ)) (s : List ℕ) (m n i : ℕ) (b : Bool) (r x y h : List ℕ) → AreHashes (s ∷ p) → AreHashes q → Is32 h → i < m → m < n → split n < m
      → both_down H m n b r (s ∷ p) ≡ Some (x, y) → rebuild_down H i m h q ≡ Some x
      → All S (proof_strings_down H m n b r (s ∷ p)) → All S (path_strings_down H i m h q) → Extends i n h y
  in_right p ih [] s m n i b r x y h ap_ aq l32 inside less high e f sp sq =
      absurd (none_some x (sym (rebuild_short H i m h (omega (arith, split_pos n (omega arith)))) ∙ f))
  in_right p ih (t ∷ q) s m n i b r x y h ap_ aq l32 inside less high e f sp sq =
      let more : 1 < n = omega arith in
      let positive : 0 < split n = split_pos n more in
      let k = split n in
      let km : split m ≡ k = split_within m n k less refl positive high in
      let many : 1 < m = omega arith in
      let u = mapped (λ z. pair_right H z s) (both_down H (m - k) (n - k) false r p) (x, y) (sym (both-right H m n k b r s p less refl high) ∙ e) in
      let X = u.0.0 in
      let Y = u.0.1 in
      let strings = subst (All S) (both_strings_right H m n k b r s X Y p less refl high u.1) sp in
      let older : S (1 ∷ s ++ X) = All-head S (1 ∷ s ++ X) ((1 ∷ s ++ Y) ∷ proof_strings_down H (m - k) (n - k) false r p) strings in
      let rest = All-tail S (1 ∷ s ++ X) ((1 ∷ s ++ Y) ∷ proof_strings_down H (m - k) (n - k) false r p) strings in
      let newer : S (1 ∷ s ++ Y) = All-head S (1 ∷ s ++ Y) (proof_strings_down H (m - k) (n - k) false r p) rest in
      let first : hash_node H s X ≡ x = ap (λ (z : List ℕ × List ℕ). z.0) u.2 in
      let second : hash_node H s Y ≡ y = ap (λ (z : List ℕ × List ℕ). z.1) u.2 in
      let s32 : Is32 s = All-head Is32 s p ap_ in
      let t32 : Is32 t = All-head Is32 t q aq in
      ⊎_elim
      (λ (low : i < k).
      let v = mapped (λ z. hash_node H z t) (rebuild_down H i k h q) x (sym (rebuild_left H i m k h t q many km low) ∙ f) in
      let w = subst (All S) (strings_left H i m k h t v.0 q km low v.1) sq in
      let v32 : Is32 v.0 = rebuilt_length H hash_length q i k h v.0 l32 v.1 in
      let y32 : Is32 Y = second_length H hash_length p (m - k) (n - k) false r X Y (All-tail Is32 s p ap_) (λ w. absurd (both_ways false refl w)) (omega arith) u.1 in
      ⊎_elim
      (λ (same : (s ≡ v.0) × (X ≡ t)).
      let leads : Leads i k h s = (q, All-tail Is32 t q aq, All-tail S (1 ∷ v.0 ++ t) (path_strings_down H i k h q) w, v.1 ∙ ap Some (sym same.0)) in
      inl (subst (Leads i n h) second (up_left i n h s Y more low y32 newer leads)))
      (λ (pair : CollideAmong H S). inr pair)
      (left_nodes H S s X v.0 t (s32 ∙ sym v32) older (All-head S (1 ∷ v.0 ++ t) (path_strings_down H i k h q) w) (first ∙ sym v.2)))
      (λ (above : k ≤ i).
      let v = mapped (λ z. hash_node H t z) (rebuild_down H (i - k) (m - k) h q) x (sym (rebuild_right H i m k h t q many km above) ∙ f) in
      let w = subst (All S) (strings_right H i m k h t v.0 q km above v.1) sq in
      ⊎_elim
      (λ (same : (s ≡ t) × (X ≡ v.0)).
      ⊎_elim
      (λ (z : Leads (i - k) (n - k) h Y). inl (subst (Leads i n h) second (up_right i n h Y s more above s32 newer z)))
      (λ (pair : CollideAmong H S). inr pair)
      (ih q (m - k) (n - k) (i - k) false r X Y h (All-tail Is32 s p ap_) (All-tail Is32 t q aq) (λ w. absurd (both_ways false refl w)) l32 (omega arith) (omega arith) u.1
      (v.1 ∙ ap Some (sym same.1)) (All-tail S (1 ∷ s ++ Y) (proof_strings_down H (m - k) (n - k) false r p) rest)
      (All-tail S (1 ∷ t ++ v.0) (path_strings_down H (i - k) (m - k) h q) w)))
      (λ (pair : CollideAmong H S). inr pair)
      (left_nodes H S s X t v.0 (s32 ∙ sym t32) older (All-head S (1 ∷ t ++ v.0) (path_strings_down H (i - k) (m - k) h q) w) (first ∙ sym v.2)))
      (cases_lt i k)

  pub extend : (p : List (List ℕ)) → Extending p
  extend [] q m n i b r x y h ap_ aq known l32 inside l e f sp sq =
      ⊎_elim
      (λ (less : m < n). absurd (none_some (x, y) (sym (both-end H m n b r less) ∙ e)))
      (λ (all : n ≤ m).
      let g : m ≡ n = omega arith in
      let z = whole_end H n b r x y (ap (λ j. both_down H j n b r []) (sym g) ∙ e) in
      let same : x ≡ y = z.0 ∙ sym z.1 in
      inl (subst (λ j. Leads i j h y) g (q, aq, sq, f ∙ ap Some same)))
      (cases_lt m n)
  extend (s ∷ p) q m n i b r x y h ap_ aq known l32 inside l e f sp sq =
      ⊎_elim
      (λ (less : m < n). ⊎_elim
      (λ (high : split n < m). in_right p (extend p) q s m n i b r x y h ap_ aq l32 inside less high e f sp sq)
      (λ (low : m ≤ split n).
      let more : 1 < n = omega arith in
      let u = mapped (λ z. pair_left H z s) (both_down H m (split n) b r p) (x, y) (sym (both-left H m n (split n) b r s p less refl low) ∙ e) in
      let strings = subst (All S) (both_strings_left H m n (split n) b r s u.0.0 u.0.1 p less refl low u.1) sp in
      let first : u.0.0 ≡ x = ap (λ (z : List ℕ × List ℕ). z.0) u.2 in
      let second : hash_node H u.0.1 s ≡ y = ap (λ (z : List ℕ × List ℕ). z.1) u.2 in
      ⊎_elim
      (λ (w : Leads i (split n) h u.0.1).
      inl (subst (Leads i n h) second
      (up_left i n h u.0.1 s more (omega arith) (All-head Is32 s p ap_) (All-head S (1 ∷ u.0.1 ++ s) (proof_strings_down H m (split n) b r p) strings) w)))
      (λ (pair : CollideAmong H S). inr pair)
      (extend p q m (split n) i b r u.0.0 u.0.1 h (All-tail Is32 s p ap_) aq known l32 inside low u.1 (f ∙ ap Some (sym first))
      (All-tail S (1 ∷ u.0.1 ++ s) (proof_strings_down H m (split n) b r p) strings) sq))
      (cases_lt (split n) m))
      (λ (all : n ≤ m).
      let g : m ≡ n = omega arith in
      let z = whole_given H n b r s x y p (ap (λ j. both_down H j n b r (s ∷ p)) (sym g) ∙ e) in
      let same : x ≡ y = z.0 ∙ sym z.1 in
      inl (subst (λ j. Leads i j h y) g (q, aq, sq, f ∙ ap Some same)))
      (cases_lt m n)
