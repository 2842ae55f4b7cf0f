-- Deduplication indexes that have exactly the identities that were in the log before each step.
use Rattle.std.proofs.Common.{◌≡◌, ◌∙◌, ℕ, ◌+◌, ◌<◌, List, [], ◌∷◌, ◌++◌, length, get_or, map, flat_map, All, AllPairs, Contains, sym, refl, ap, subst, arith, append_assoc, length-append}
use Rattle.std.proofs.lemmas.List.{get_or-append-add, get_or_append_left, get_or_default, get_or-map, length-map}
use Rattle.std.proofs.lemmas.List.Elements.{All-nil, All-cons, Contains-get_or, Contains-append_left, Contains-append_right}
use Rattle.std.proofs.lemmas.List.Kept.{AllPairs-cons}
use Rattle.ct_codec.specs.Submitted.{Submitted, identity_of}
use Rattle.ct_step.specs.History.{Attempt}
use Rattle.ct_step.specs.Identities.{identity_of_leaf, AreApart, AreNewFrom}
use Rattle.ct_step.specs.Misses.{LookedUp, looked_up_attempts, StoresAll, MissesCanBeTrue}

abbrev batch_identities : Attempt → List (List ℕ)
batch_identities a = map identity_of a.batch

-- the steps with deduplication indexes that have S and the identities that the steps before them added
record Stored (S : List (List ℕ)) (steps : List Attempt) (attempts : List LookedUp) : Type 0 where
  pub same : looked_up_attempts attempts ≡ steps
  pub has : All (λ b. (x : List ℕ) → Contains S x → Contains b.stored x) attempts
  pub once : All (λ b. AreApart (map identity_of b.attempt.batch)) attempts
  pub misses : All (λ b. All (λ s. ¬ (Contains b.stored (identity_of s))) b.attempt.batch) attempts
  pub written : AllPairs (λ a b. StoresAll b.stored a.attempt.batch) attempts

-- the list in the middle is apart, and none of it is in the first
middle_apart : (S I Z : List (List ℕ)) → AreNewFrom (length S) (S ++ (I ++ Z)) → AreApart I
middle_apart S I Z new = λ i j d l h e.
    let at : (k : ℕ) → k < length I → get_or (S ++ (I ++ Z)) (length S + k) d ≡ get_or I k d =
    λ k inside. get_or-append-add S (I ++ Z) k d ∙ get_or_append_left I Z d k inside in
    new (length S + i) (length S + j) d (omega (arith, l)) (omega arith) (omega (arith, h, length-append S (I ++ Z), length-append I Z))
    (at i (omega (arith, l, h)) ∙ e ∙ sym (at j h))

middle_missed : (S I Z : List (List ℕ)) → AreNewFrom (length S) (S ++ (I ++ Z)) → (k : ℕ) (d : List ℕ) → k < length I → Contains S (get_or I k d) → ⊥
middle_missed S I Z new k d inside found =
    let x = get_or I k d in
    let here : get_or (S ++ (I ++ Z)) found.0 d ≡ x = get_or_append_left S (I ++ Z) d found.0 found.1 ∙ get_or_default S found.0 d x found.1 ∙ found.2 in
    let there : get_or (S ++ (I ++ Z)) (length S + k) d ≡ x = get_or-append-add S (I ++ Z) k d ∙ get_or_append_left I Z d k inside in
    new found.0 (length S + k) d (omega (arith, found.1)) (omega arith) (omega (arith, inside, length-append S (I ++ Z), length-append I Z)) (here ∙ sym there)

identity_stands : (batch : List Submitted) → All (λ s. Contains (map identity_of batch) (identity_of s)) batch
identity_stands batch = λ k d h.
    subst (Contains (map identity_of batch)) (get_or-map identity_of batch k d (identity_of d) h)
    (Contains-get_or (map identity_of batch) k (identity_of d) (omega (arith, h, length-map batch identity_of)))

stored_from : (S : List (List ℕ)) (steps : List Attempt) → AreNewFrom (length S) (S ++ flat_map batch_identities steps)
    → (attempts : List LookedUp) × Stored S steps attempts
stored_from S [] new = (
  [],
  record {
    same = refl;
    has = All-nil (λ b. (x : List ℕ) → Contains S x → Contains b.stored x);
    once = All-nil (λ b. AreApart (map identity_of b.attempt.batch));
    misses = All-nil (λ b. All (λ s. ¬ (Contains b.stored (identity_of s))) b.attempt.batch);
    written = λ i j d l h. absurd (omega (arith, l, h));
  },
)
stored_from S (a ∷ steps) new =
    let I = map identity_of a.batch in
    let Z = flat_map batch_identities steps in
    let T = S ++ I in
    let later : AreNewFrom (length T) (T ++ Z) =
    subst (AreNewFrom (length T)) (sym (append_assoc S I Z))
    (λ i j d l n h. new i j d l (omega (arith, n, length-append S I)) h) in
    let behind = stored_from T steps later in
    let b : LookedUp = record { stored = S; attempt = a } in
    let rest = behind.0 in
    let of_rest = behind.1 in (
      b ∷ rest,
      record {
        same = ap (λ r. a ∷ r) of_rest.same;
        has = All-cons (λ c. (x : List ℕ) → Contains S x → Contains c.stored x) b rest (λ x h. h)
            (λ k d h x in_S. of_rest.has k d h x (Contains-append_left S I x in_S));
        once = All-cons (λ c. AreApart (map identity_of c.attempt.batch)) b rest (middle_apart S I Z new) of_rest.once;
        misses = All-cons (λ c. All (λ s. ¬ (Contains c.stored (identity_of s))) c.attempt.batch) b rest
            (λ k d h found. middle_missed S I Z new k (identity_of d) (omega (arith, h, length-map a.batch identity_of))
            (subst (Contains S) (sym (get_or-map identity_of a.batch k d (identity_of d) h)) found))
            of_rest.misses;
        written = AllPairs-cons (λ c e. StoresAll e.stored c.attempt.batch) b rest
            (λ k d h n s inside. of_rest.has k d h (identity_of (get_or a.batch n s))
            (Contains-append_right S I (identity_of (get_or a.batch n s)) (identity_stands a.batch n s inside)))
            of_rest.written;
      },
    )

pub misses_can_be_true : MissesCanBeTrue
misses_can_be_true known steps new =
    let K = map identity_of_leaf known in
    let made = stored_from K steps
    (λ i j d l n h. new i j d l (omega (arith, n, length-map known identity_of_leaf)) h) in (
      made.0,
      made.1.same,
      record {
        once = made.1.once;
        misses = made.1.misses;
        had = λ k b h n leaf inside. made.1.has k b h (identity_of_leaf (get_or known n leaf))
            (subst (Contains K) (get_or-map identity_of_leaf known n leaf (identity_of_leaf leaf) inside)
            (Contains-get_or K n (identity_of_leaf leaf) (omega (arith, inside, length-map known identity_of_leaf))));
        written = made.1.written;
      },
    )
