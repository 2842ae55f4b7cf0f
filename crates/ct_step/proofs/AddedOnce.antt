-- The log that the taken steps carry on has each new identity once.
use Rattle.std.proofs.Common.{◌≡◌, ◌⊎◌, ◌∙◌, ℕ, suc, Bool, true, false, cond, List, [], ◌∷◌, ◌++◌, length, get_or, map, flat_map, take, All, AllPairs, Contains, sym, refl, ap, subst, arith, inl, inr, ⊎_elim, append_assoc, append-nil}
use Rattle.std.proofs.lemmas.List.{take_at, map-append, length-map}
use Rattle.std.proofs.lemmas.List.Elements.{All-nil, All-cons, All-head, All-tail, All-append, All-map, All-weaker}
use Rattle.ct_codec.specs.Submitted.{identity_of}
use Rattle.ct_step.specs.Identities.{identity_of_leaf, AreApart, AreNewFrom}
use Rattle.ct_step.proofs.Lists.{AllPairs-first, AllPairs-rest, AllPairs-append, pairs_behind}
use Rattle.ct_step.proofs.Once.{leaves_keep_identities}
use Rattle.ct_step.specs.declared.line.StateLine.{StateLine}
use Rattle.ct_step.specs.Entries.{tiled_leaves, tree_leaves}
use Rattle.ct_step.specs.Lines.{LineAttempt, AreLineAttempts, entries_after, taken_lines, IsHashedBySteps}
use Rattle.ct_step.specs.Steps.{new_entries, IsHashedOfLog, IsLog, IsTiledStep}
use Rattle.ct_step.proofs.LinesAgree.{after_begins, after_taken, after_left, met_before}
use Rattle.ct_data_tiles.specs.TileLeaf.{Tiled, leaf_of}
use Rattle.ct_verify.specs.Hashed.{CollideAmong}
use Rattle.ct_step.specs.StepLaws.{LookedUpLine, line_attempts_of, taken_of_lines, StoresEach, held_behind, logged_identities, OneEntryAnIdentityByLines}
use Rattle.ct_step.specs.StepRepeats.{BatchEntry, is_known, with_identity, first_of_each, identities_of}
use Rattle.ct_step.proofs.Splits.{batches_are_split}

new_identities : (t i : ℕ) (B : List BatchEntry) → logged_identities (tiled_leaves t i B) ≡ identities_of B
unfolding tiled_leaves
new_identities t i [] = refl
new_identities t i (e ∷ B) =
    ap (λ (x : List ℕ). x ∷ logged_identities (tiled_leaves t (suc i) B)) (leaves_keep_identities t i e.0)
    ∙ ap (λ (l : List (List ℕ)). identity_of e.0 ∷ l) (new_identities t (suc i) B)

logged-append : (E N : List Tiled) → logged_identities (E ++ N) ≡ logged_identities E ++ logged_identities N
logged-append E N = ap (map identity_of_leaf) (map-append leaf_of E N) ∙ map-append identity_of_leaf (tree_leaves E) (tree_leaves N)

-- ---- the log after some attempts
abbrev step_identities : LineAttempt → List (List ℕ)
step_identities a = identities_of a.batch

module _ (H : List ℕ → List ℕ) (S : List (List ℕ)) (E : List Tiled) where
  abbrev Grown : StateLine → List Tiled → List LineAttempt → Type 0
  Grown held known attempts =
      ((Z : List Tiled) × (E ≡ known ++ Z) × IsLog H E (held_behind held attempts)
      × (logged_identities Z ≡ flat_map step_identities (taken_lines attempts))) ⊎ CollideAmong H (IsHashedBySteps H S E)

  grown_from : (held : StateLine) (known : List Tiled) (attempts : List LineAttempt) → E ≡ entries_after known attempts → IsLog H known held
      → AreLineAttempts H S held attempts → Grown held known attempts
  unfolding AreLineAttempts entries_after
  grown_from held known [] all log made =
      inl ([], all ∙ sym (append-nil known), subst (λ (X : List Tiled). IsLog H X held) (sym all) log, refl)
  grown_from held known (a ∷ rest) all log (made, inl (took, seen, more)) =
      let here : IsLog H known a.seen = subst (IsLog H known) (sym seen) log in
      let N = new_entries known a.batch a.now in
      let kept : taken_lines (a ∷ rest) ≡ a ∷ taken_lines rest = ap (λ b. cond b (a ∷ taken_lines rest) (taken_lines rest)) took in
      let held_now : a.step.line ≡ cond a.took a.step.line held = ap (λ b. cond b a.step.line held) (sym took) in
      let after : E ≡ entries_after (known ++ N) rest = all ∙ after_taken known a rest took in
      let end = after_begins (known ++ N) rest in
      ⊎_elim
      (λ (p : IsTiledStep H a.seen known a.batch a.now a.step).
      ⊎_elim
      (λ (behind : (Z : List Tiled) × (E ≡ (known ++ N) ++ Z) × IsLog H E (held_behind a.step.line rest)
      × (logged_identities Z ≡ flat_map step_identities (taken_lines rest))).
      inl (
        N ++ behind.0,
        behind.1 ∙ append_assoc known N behind.0,
        subst (λ (h : StateLine). IsLog H E (held_behind h rest)) held_now behind.2,
        logged-append N behind.0 ∙ ap (λ x. x ++ logged_identities behind.0) (new_identities a.now (length known) a.batch)
            ∙ ap (λ x. step_identities a ++ x) behind.3 ∙ ap (flat_map step_identities) (sym kept),
      ))
      (λ (found : CollideAmong H (IsHashedBySteps H S E)). inr found)
      (grown_from a.step.line (known ++ N) rest after p.log more))
      (λ (found : CollideAmong H (λ s. Contains S s ⊎ IsHashedOfLog H known s)).
      inr (met_before H S E known (N ++ end.0) (after ∙ end.1 ∙ append_assoc known N end.0) found))
      (made.2 known here)
  grown_from held known (a ∷ rest) all log (made, inr (left, more)) =
      let kept : taken_lines (a ∷ rest) ≡ taken_lines rest = ap (λ b. cond b (a ∷ taken_lines rest) (taken_lines rest)) left in
      let held_now : held ≡ cond a.took a.step.line held = ap (λ b. cond b a.step.line held) (sym left) in
      ⊎_elim
      (λ (behind : (Z : List Tiled) × (E ≡ known ++ Z) × IsLog H E (held_behind held rest)
      × (logged_identities Z ≡ flat_map step_identities (taken_lines rest))).
      inl (
        behind.0,
        behind.1,
        subst (λ (h : StateLine). IsLog H E (held_behind h rest)) held_now behind.2,
        behind.3 ∙ ap (flat_map step_identities) (sym kept),
      ))
      (λ (found : CollideAmong H (IsHashedBySteps H S E)). inr found)
      (grown_from held known rest (all ∙ after_left known a rest left) log more)

-- ---- the taken ones of those that were looked up
kept_of : (took : Bool) (b : LookedUpLine) (x : List LineAttempt) (y : List LookedUpLine) → x ≡ line_attempts_of y
    → cond took (b.attempt ∷ x) x ≡ line_attempts_of (cond took (b ∷ y) y)
kept_of true b x y e = ap (λ z. b.attempt ∷ z) e
kept_of false b x y e = e

taken_attempts : (asked : List LookedUpLine) → taken_lines (line_attempts_of asked) ≡ line_attempts_of (taken_of_lines asked)
taken_attempts [] = refl
taken_attempts (b ∷ rest) = kept_of b.attempt.took b (taken_lines (line_attempts_of rest)) (taken_of_lines rest) (taken_attempts rest)

-- ---- true misses
abbrev Differ : List ℕ → List ℕ → Type 0
Differ x y = ¬ (x ≡ y)

abbrev added : List LookedUpLine → List (List ℕ)
added steps = flat_map step_identities (line_attempts_of steps)

one_if : (P : BatchEntry → Type 0) (t : Bool) (e : BatchEntry) → P e → All P (cond t [] (e ∷ []))
one_if P true e p = All-nil P
one_if P false e p = All-cons P e [] p (All-nil P)

-- a property of all entries of a batch holds for the first ones
firsts_too : (P : BatchEntry → Type 0) (K : List (List ℕ)) (B : List BatchEntry) → All P B → All P (first_of_each K B)
firsts_too P K [] all = All-nil P
firsts_too P K (e ∷ B) all =
    All-append P (cond (is_known K e) [] (e ∷ [])) (first_of_each (with_identity K e) B) (one_if P (is_known K e) e (All-head P e B all))
    (firsts_too P (with_identity K e) B (All-tail P e B all))

taken_too : (P : BatchEntry → Type 0) (b : LookedUpLine) → All P b.batch → All P b.attempt.batch
taken_too P b all = subst (λ (B : List BatchEntry). All P B) (sym b.firsts) (firsts_too P [] b.batch all)

abbrev TrueMiss : LookedUpLine → Type 0
TrueMiss b = All (λ e. ¬ (Contains b.stored (identity_of e.0))) b.batch

abbrev IsOther : List ℕ → BatchEntry → Type 0
IsOther x e = Differ x (identity_of e.0)

-- an identity that the deduplication index had before each of these steps differs from all that they add
missed : (x : List ℕ) (steps : List LookedUpLine) → All (λ b. Contains b.stored x) steps → All TrueMiss steps → All (Differ x) (added steps)
missed x [] has miss = All-nil (Differ x)
missed x (b ∷ steps) has miss =
    let here = All-head (λ (c : LookedUpLine). Contains c.stored x) b steps has in
    All-append (Differ x) (identities_of b.attempt.batch) (added steps)
    (All-map (Differ x) (λ (e : BatchEntry). identity_of e.0) b.attempt.batch
    (taken_too (IsOther x) b
    (All-weaker (λ (e : BatchEntry). ¬ (Contains b.stored (identity_of e.0))) (IsOther x) (λ e no same. no (subst (Contains b.stored) same here))
    b.batch (All-head TrueMiss b steps miss))))
    (missed x steps (All-tail (λ (c : LookedUpLine). Contains c.stored x) b steps has) (All-tail TrueMiss b steps miss))

-- the same for many identities, each of which was in the deduplication index before each of these steps
all_missed : {X : Type 0} (f : X → List ℕ) (xs : List X) (steps : List LookedUpLine) → All (λ b. All (λ x. Contains b.stored (f x)) xs) steps
    → All TrueMiss steps → All (λ x. All (Differ x) (added steps)) (map f xs)
all_missed f xs steps has miss =
    All-map (λ x. All (Differ x) (added steps)) f xs (λ k d h. missed (f (get_or xs k d)) steps (λ n b l. has n b l k d h) miss)

abbrev Written : LookedUpLine → LookedUpLine → Type 0
Written a b = StoresEach b.stored a.batch

once : (b : LookedUpLine) → AreApart (identities_of b.attempt.batch)
once b = subst (λ (B : List BatchEntry). AreApart (identities_of B)) (sym b.firsts) (batches_are_split b.batch).once

stored_too : (b : LookedUpLine) (steps : List LookedUpLine) → All (Written b) steps
    → All (λ c. All (λ e. Contains c.stored (identity_of e.0)) b.attempt.batch) steps
stored_too b steps all = λ k d h. taken_too (λ (e : BatchEntry). Contains (get_or steps k d).stored (identity_of e.0)) b (all k d h)

added_apart : (steps : List LookedUpLine) → All TrueMiss steps → AllPairs Written steps → AreApart (added steps)
added_apart [] miss written = λ i j d l h. absurd (omega (arith, l, h))
added_apart (b ∷ steps) miss written =
    let behind = All-tail TrueMiss b steps miss in
    AllPairs-append Differ (identities_of b.attempt.batch) (added steps) (once b)
    (added_apart steps behind (AllPairs-rest Written b steps written))
    (all_missed (λ (e : BatchEntry). identity_of e.0) b.attempt.batch steps
    (stored_too b steps (AllPairs-first Written b steps written)) behind)

pub one_entry_an_identity_by_lines : OneEntryAnIdentityByLines
one_entry_an_identity_by_lines H S held known asked log made true_misses E whole =
    let steps = taken_of_lines asked in
    let K = logged_identities known in
    let I = added steps in
    ⊎_elim
    (λ (all : (Z : List Tiled) × (E ≡ known ++ Z) × IsLog H E (held_behind held (line_attempts_of asked))
    × (logged_identities Z ≡ flat_map step_identities (taken_lines (line_attempts_of asked)))).
    let Z = all.0 in
    let new : logged_identities Z ≡ I = all.3 ∙ ap (flat_map step_identities) (taken_attempts asked) in
    let ids : logged_identities E ≡ K ++ I = ap logged_identities all.1 ∙ logged-append known Z ∙ ap (λ x. K ++ x) new in
    let apart : AreApart I = added_apart steps true_misses.misses true_misses.written in
    let across : All (λ x. All (Differ x) I) K = all_missed identity_of_leaf (tree_leaves known) steps true_misses.had true_misses.misses in
    let count : length K ≡ length known = length-map (tree_leaves known) identity_of_leaf ∙ length-map known leaf_of in
    inl (
      all.2,
      sym (take_at known Z (length known) refl) ∙ ap (take (length known)) (sym all.1),
      subst (AreNewFrom (length known)) (sym ids)
          (λ i j d l n h. pairs_behind Differ K I apart across i j d l (omega (arith, n, count)) h),
    ))
    (λ (found : CollideAmong H (IsHashedBySteps H S E)). inr found)
    (grown_from H S E held known (line_attempts_of asked) whole log made)
