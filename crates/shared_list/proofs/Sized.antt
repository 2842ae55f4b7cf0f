-- How the elements of a list in parts of one size are found.
use Rattle.std.proofs.Common.{◌≡◌, ℕ, zero, suc, ◌+◌, ◌-◌, ◌*◌, ◌/◌, ◌%◌, ◌<◌, ◌≤◌, List, [], ◌∷◌, ◌++◌, length, get_or, refl, ap, sym, ◌∙◌, arith, length-append}
use Rattle.std.proofs.lemmas.List.{get_or_append_left, get_or-append_right}
use Rattle.shared_list.specs.Flat.{concatenated, AllOf}

-- facts about a part size n; they hold for each positive number and are shown for the two sizes that lists have here
pub record IsSize (n : ℕ) : Type 0 where
  pub none : n * zero ≡ zero
  pub more : (k : ℕ) → n * suc k ≡ n + n * k
  pub cut : (i : ℕ) → i ≡ n * (i / n) + i % n
  pub small : (i : ℕ) → i % n < n
  pub below : (i k : ℕ) → i / n < k → i < n * k
  pub past : (i k m : ℕ) → k ≤ i / n → i < n * k + m → m ≤ n → (n * k ≤ i) × (i - n * k ≡ i % n) × (i % n < m)

pub blocks : IsSize 16384
blocks = record {
  none = refl;
  more = λ k. omega arith;
  cut = λ i. omega arith;
  small = λ i. omega arith;
  below = λ i k l. omega arith;
  past = λ i k m l b s. (omega arith, omega arith, omega arith);
}

pub chunks : IsSize 128
chunks = record {
  none = refl;
  more = λ k. omega arith;
  cut = λ i. omega arith;
  small = λ i. omega arith;
  below = λ i k l. omega arith;
  past = λ i k m l b s. (omega arith, omega arith, omega arith);
}

module _ {X : Type 0} {n : ℕ} (size : IsSize n) where
  pub AllOf-push : (cs : List (List X)) (c : List X) → AllOf n cs → length c ≡ n → AllOf n (cs ++ c ∷ [])
  AllOf-push [] c all full = (full, tt)
  AllOf-push (d ∷ cs) c all full = (all.0, AllOf-push cs c all.1 full)

  length-concatenated : (cs : List (List X)) → AllOf n cs → length (concatenated cs) ≡ n * length cs
  length-concatenated [] all = sym size.none
  length-concatenated (c ∷ cs) all =
      length-append c (concatenated cs) ∙ ap (λ (m : ℕ). m + length (concatenated cs)) all.0 ∙ ap (λ (m : ℕ). n + m) (length-concatenated cs all.1) ∙ sym (size.more (length cs))

  -- the part at an index below the number of parts is full
  pub full_at : (cs : List (List X)) (k : ℕ) (d : List X) → AllOf n cs → k < length cs → length (get_or cs k d) ≡ n
  full_at [] k d all below = absurd (omega arith)
  full_at (c ∷ cs) zero d all below = all.0
  full_at (c ∷ cs) (suc k) d all below = full_at cs k d all.1 (omega arith)

  -- element j of part k
  get_or-concatenated : (cs : List (List X)) (k j : ℕ) (e : List X) (d : X) → AllOf n cs → k < length cs → j < n
      → get_or (concatenated cs) (n * k + j) d ≡ get_or (get_or cs k e) j d
  get_or-concatenated [] k j e d all below inside = absurd (omega arith)
  get_or-concatenated (c ∷ cs) zero j e d all below inside =
      let none = size.none in
      let place : n * zero + j ≡ j = omega (arith, none) in
      ap (λ (i : ℕ). get_or (c ++ concatenated cs) i d) place ∙ get_or_append_left c (concatenated cs) d j (let f = all.0 in omega (arith, f))
  get_or-concatenated (c ∷ cs) (suc k) j e d all below inside =
      let f = all.0 in
      let more = size.more k in
      let past : n ≤ n * suc k + j = omega (arith, more) in
      let rest : n * suc k + j - n ≡ n * k + j = omega (arith, more) in
      get_or-append_right c (concatenated cs) n (n * suc k + j) d f past
      ∙ ap (λ (i : ℕ). get_or (concatenated cs) i d) rest
      ∙ get_or-concatenated cs k j e d all.1 (omega arith) inside

  -- an element of the whole list, in the parts and in the rest
  pub in_parts : (cs : List (List X)) (rest : List X) (i : ℕ) (e : List X) (d : X) → AllOf n cs → i / n < length cs
      → get_or (concatenated cs ++ rest) i d ≡ get_or (get_or cs (i / n) e) (i % n) d
  in_parts cs rest i e d all below =
      let l = length-concatenated cs all in
      let within = size.below i (length cs) below in
      let inside : i < length (concatenated cs) = omega (arith, l, within) in
      get_or_append_left (concatenated cs) rest d i inside
      ∙ ap (λ (j : ℕ). get_or (concatenated cs) j d) (size.cut i)
      ∙ get_or-concatenated cs (i / n) (i % n) e d all below (size.small i)

  behind : (cs : List (List X)) (rest : List X) (i : ℕ) → AllOf n cs → length rest ≤ n → length cs ≤ i / n → i < length (concatenated cs ++ rest)
      → (n * length cs ≤ i) × (i - n * length cs ≡ i % n) × (i % n < length rest)
  behind cs rest i all short past below =
      let l = length-concatenated cs all in
      let w = length-append (concatenated cs) rest in
      size.past i (length cs) (length rest) past (omega (arith, l, w, below)) short

  pub in_rest : (cs : List (List X)) (rest : List X) (i : ℕ) (d : X) → AllOf n cs → length rest ≤ n → length cs ≤ i / n
      → i < length (concatenated cs ++ rest) → get_or (concatenated cs ++ rest) i d ≡ get_or rest (i % n) d
  in_rest cs rest i d all short past below =
      let b = behind cs rest i all short past below in
      get_or-append_right (concatenated cs) rest (n * length cs) i d (length-concatenated cs all) b.0 ∙ ap (λ (j : ℕ). get_or rest j d) b.1

  pub in_rest-below : (cs : List (List X)) (rest : List X) (i : ℕ) → AllOf n cs → length rest ≤ n → length cs ≤ i / n
      → i < length (concatenated cs ++ rest) → i % n < length rest
  in_rest-below cs rest i all short past below = (behind cs rest i all short past below).2
