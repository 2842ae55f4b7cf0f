-- A batch without its repeats, and the indexes of the receipts of the whole batch.
use Rattle.std.proofs.Common.{◌≡◌, ◌∙◌, ℕ, zero, suc, ◌+◌, ◌<◌, Bool, true, false, ◌||◌, not, cond, List, [], ◌∷◌, ◌++◌, length, map, get_or, All, Some, None, Option, sym, refl, ap, subst, arith, inl, inr, append_assoc, append-nil, length-append}
use Rattle.std.specs.Prelude.{filter_map, slice_get}
use Rattle.std.specs.List.{list_any, position_or_len, cons_option}
use Rattle.std.specs.Str.{bytes_eq}
use Rattle.std.specs.Cmp.Lexicographic.{bytes_decides}
use Rattle.std.proofs.lemmas.List.{length-map, get_or_append_left}
use Rattle.std.proofs.lemmas.List.Elements.{All-nil, All-cons, All-head, All-tail}
use Rattle.std.proofs.lemmas.List.Quantifiers.{all_pairs_push}
use Rattle.ct_codec.specs.Submitted.{entry_of, identity_of}
use Rattle.ct_step.specs.Leaves.{receipts_from}
use Rattle.ct_step.specs.Identities.{AreApart}
use Rattle.ct_step.specs.declared.line.StateLine.{StateLine}
use Rattle.ct_step.proofs.StateLines.{state_lines_differ}
use Rattle.ct_step.specs.Entries.{tiled_leaves, tree_leaves}
use Rattle.ct_step.specs.Steps.{IsLog, IsStepFrom}
use Rattle.ct_step.specs.declared.step.Step.{Step}
use Rattle.ct_data_tiles.specs.TileLeaf.{Tiled}
use Rattle.ct_step.specs.StepAnswers.{edge_of, IsStepReplyBy, IsBoundedReplyBy}
use Rattle.ct_step.specs.StepLaws.{BatchesAreSplit, ReceiptsNameEntries, receipt_of_place}
use Rattle.ct_step.specs.StepRepeats.{BatchEntry, is_known, with_identity, first_of_each, places_of_all, identities_of}
use Rattle.ct_step.specs.StepWords.{Reference, steps, refuses, receipts_at}
use Rattle.ct_step.specs.declared.answer.StepRefusal.{StepRefusal}
use Rattle.ct_step.proofs.FirstIndexes.{indexes_from, entries_there, indexes_rise, none_before}
use Rattle.ct_step.specs.SplitSoFar.{known_behind}

-- ---- no identity occurs twice
known_if : (t : Bool) (K : List (List ℕ)) (e : BatchEntry) (R : List BatchEntry)
    → cond t K (K ++ identity_of e.0 ∷ []) ++ identities_of R ≡ K ++ identities_of (cond t [] (e ∷ []) ++ R)
known_if true K e R = refl
known_if false K e R = append_assoc K (identity_of e.0 ∷ []) (identities_of R)

known_is : (K : List (List ℕ)) (B : List BatchEntry) → known_behind K B ≡ K ++ identities_of (first_of_each K B)
known_is K [] = sym (append-nil K)
known_is K (e ∷ B) = known_is (with_identity K e) B ∙ known_if (is_known K e) K e (first_of_each (with_identity K e) B)

abbrev Differ : List ℕ → List ℕ → Type 0
Differ x y = ¬ (x ≡ y)

neither : (a b : Bool) → (a || b) ≡ false → (a ≡ false) × (b ≡ false)
neither true b e = cc
neither false b e = (refl, e)

never_both : (b : Bool) → b ≡ false → b ≡ true → ⊥
never_both b e f = cc

none_same : (x : List ℕ) (K : List (List ℕ)) → list_any (bytes_eq x) K ≡ false → All (λ y. Differ y x) K
none_same x [] e = All-nil (λ y. Differ y x)
none_same x (y ∷ K) e =
    let parts = neither (bytes_eq x y) (list_any (bytes_eq x) K) e in
    All-cons (λ y. Differ y x) y K (λ same. never_both (bytes_eq x y) parts.0 ((bytes_decides x y).1 (sym same))) (none_same x K parts.1)

apart_if : (t : Bool) (K : List (List ℕ)) (x : List ℕ) → list_any (bytes_eq x) K ≡ t → AreApart K → AreApart (cond t K (K ++ x ∷ []))
apart_if true K x e apart = apart
apart_if false K x e apart = all_pairs_push Differ K x apart (none_same x K e)

apart_behind : (K : List (List ℕ)) (B : List BatchEntry) → AreApart K → AreApart (known_behind K B)
apart_behind K [] apart = apart
apart_behind K (e ∷ B) apart = apart_behind (with_identity K e) B (apart_if (is_known K e) K (identity_of e.0) refl apart)

-- ---- the index of an identity
abbrev place : List ℕ → List (List ℕ) → ℕ
place x K = position_or_len (bytes_eq x) K

abbrev with_it : List ℕ → List (List ℕ) → List (List ℕ)
with_it x K = cond (list_any (bytes_eq x) K) K (K ++ x ∷ [])

abbrev StandsAt : List ℕ → List (List ℕ) → ℕ → Type 0
StandsAt x L i = (i < length L) × (x ≡ get_or L i [])

one_before : (t : Bool) (x y : List ℕ) (K : List (List ℕ)) → y ∷ cond t K (K ++ x ∷ []) ≡ cond t (y ∷ K) (y ∷ (K ++ x ∷ []))
one_before true x y K = refl
one_before false x y K = refl

stands_if : (b : Bool) (x y : List ℕ) (K : List (List ℕ)) → bytes_eq x y ≡ b → StandsAt x (with_it x K) (place x K)
    → StandsAt x (cond (b || list_any (bytes_eq x) K) (y ∷ K) (y ∷ (K ++ x ∷ []))) (cond (not b) (1 + place x K) 0)
stands_if true x y K e behind = (omega arith, (bytes_decides x y).0 e)
stands_if false x y K e behind =
    let any = list_any (bytes_eq x) K in
    let next : suc (place x K) ≡ 1 + place x K = omega arith in
    subst (λ (i : ℕ). StandsAt x (cond any (y ∷ K) (y ∷ (K ++ x ∷ []))) i) next
    (subst (λ (L : List (List ℕ)). StandsAt x L (suc (place x K))) (one_before any x y K) (omega (arith, behind.0), behind.1))

stands : (x : List ℕ) (K : List (List ℕ)) → StandsAt x (with_it x K) (place x K)
stands x [] = (omega arith, refl)
stands x (y ∷ K) = stands_if (bytes_eq x y) x y K refl (stands x K)

stands_further : (x : List ℕ) (L R : List (List ℕ)) (i : ℕ) → StandsAt x L i → StandsAt x (L ++ R) i
stands_further x L R i h = (omega (arith, h.0, length-append L R), h.1 ∙ sym (get_or_append_left L R [] i h.0))

here : (K : List (List ℕ)) (e : BatchEntry) (B : List BatchEntry) → StandsAt (identity_of e.0) (known_behind K (e ∷ B)) (place (identity_of e.0) K)
here K e B =
    subst (λ (L : List (List ℕ)). StandsAt (identity_of e.0) L (place (identity_of e.0) K)) (sym (known_is (with_identity K e) B))
    (stands_further (identity_of e.0) (with_identity K e) (identities_of (first_of_each (with_identity K e) B)) (place (identity_of e.0) K)
    (stands (identity_of e.0) K))

within : (K : List (List ℕ)) (B : List BatchEntry) → All (λ i. i < length (known_behind K B)) (places_of_all K B)
within K [] = All-nil (λ i. i < length K)
within K (e ∷ B) =
    All-cons (λ i. i < length (known_behind K (e ∷ B))) (place (identity_of e.0) K) (places_of_all (with_identity K e) B) (here K e B).0
    (within (with_identity K e) B)

found : (K : List (List ℕ)) (B : List BatchEntry) → identities_of B ≡ map (λ i. get_or (known_behind K B) i []) (places_of_all K B)
found K [] = refl
found K (e ∷ B) =
    let rest = map (λ i. get_or (known_behind K (e ∷ B)) i []) (places_of_all (with_identity K e) B) in
    ap (λ l. identity_of e.0 ∷ l) (found (with_identity K e) B) ∙ ap (λ x. x ∷ rest) (here K e B).1

pub places_within : (B : List BatchEntry) → All (λ i. i < length (first_of_each [] B)) (places_of_all [] B)
places_within B =
    let count : length (known_behind [] B) ≡ length (first_of_each [] B) =
    ap length (known_is [] B) ∙ length-map (first_of_each [] B) (λ (e : BatchEntry). identity_of e.0) in
    subst (λ (n : ℕ). All (λ i. i < n) (places_of_all [] B)) count (within [] B)

pub batches_are_split : BatchesAreSplit
batches_are_split B = record {
  indexes = indexes_from [] 0 B;
  entries = entries_there B;
  rising = indexes_rise [] 0 B;
  once = subst AreApart (known_is [] B) (apart_behind [] B (λ i j d l h. absurd (omega (arith, l, h))));
  within = places_within B;
  found = found [] B ∙ ap (λ (L : List (List ℕ)). map (λ i. get_or L i []) (places_of_all [] B)) (known_is [] B);
  first = none_before B;
}

-- ---- receipts
receipt_there : (t n : ℕ) (F : List BatchEntry) (i : ℕ) → i < length F
    → slice_get (receipts_from t n (map (λ e. entry_of e.0) F)) i ≡ Some (n + i, t, get_or (tree_leaves (tiled_leaves t n F)) i [])
unfolding receipts_from tiled_leaves
receipt_there t n [] i h = absurd (omega (arith, h))
receipt_there t n (e ∷ F) zero h =
    let same : n ≡ n + 0 = omega arith in
    ap (λ (k : ℕ). Some (k, t, get_or (tree_leaves (tiled_leaves t n (e ∷ F))) 0 [])) same
receipt_there t n (e ∷ F) (suc i) h =
    let same : suc n + i ≡ n + suc i = omega arith in
    receipt_there t (suc n) F i (omega (arith, h)) ∙ ap (λ (k : ℕ). Some (k, t, get_or (tree_leaves (tiled_leaves t (suc n) F)) i [])) same

all_there : (f : ℕ → Option (ℕ × ℕ × List ℕ)) (g : ℕ → ℕ × ℕ × List ℕ) (n : ℕ) (P : List ℕ) → ((i : ℕ) → i < n → f i ≡ Some (g i)) → All (λ i. i < n) P
    → filter_map f P ≡ map g P
all_there f g n [] each inside = refl
all_there f g n (i ∷ P) each inside =
    one (f i) (g i) (each i (All-head (λ k. k < n) i P inside)) ∙ ap (λ l. g i ∷ l) (all_there f g n P each (All-tail (λ k. k < n) i P inside))
  where
    one : (o : Option (ℕ × ℕ × List ℕ)) (r : ℕ × ℕ × List ℕ) → o ≡ Some r → cons_option o (filter_map f P) ≡ r ∷ filter_map f P
    one o r e = ap (λ x. cons_option x (filter_map f P)) e

no_refusal : (s : Step) (p : List ℕ) (o : List Reference) (r : StepRefusal) → steps s p o ≡ refuses r → ⊥
no_refusal s p o r e = cc

same_step : (s t : Step) (p q : List ℕ) (a b : List Reference) → steps s p a ≡ steps t q b → (s ≡ t) × (p ≡ q)
same_step s t p q a b e = (cc, cc)

abbrev Named : StateLine → List BatchEntry → ℕ → List Tiled → Step → List ℕ → Type 0
Named line batch now E step places = receipts_at step places ≡ map (receipt_of_place E (first_of_each [] batch) now) (places_of_all [] batch)

named : (H : List ℕ → List ℕ) (line : StateLine) (batch : List BatchEntry) (now : ℕ) (E : List Tiled) (step : Step)
    → IsStepFrom H line (first_of_each [] batch) now step → line.tree_size ≡ length E → Named line batch now E step (places_of_all [] batch)
named H line batch now E step is size =
    let F = first_of_each [] batch in
    let P = places_of_all [] batch in
    ap (λ x. filter_map (slice_get x) P) (is.receipts ∙ ap (λ (n : ℕ). receipts_from now n (map (λ e. entry_of e.0) F)) size)
    ∙ all_there (slice_get (receipts_from now (length E) (map (λ e. entry_of e.0) F))) (receipt_of_place E F now) (length F) P
    (receipt_there now (length E) F) (places_within batch)

told : (H : List ℕ → List ℕ) (line : StateLine) (batch : List BatchEntry) (now : ℕ) (step : Step) (places : List ℕ) (objects : List Reference) (E : List Tiled) (edge : Option (List (List ℕ) × List ℕ))
    → IsStepReplyBy H line edge batch now (steps step places objects) → IsLog H E line → Named line batch now E step places
told H line batch now step places objects E None is log = absurd (no_refusal step places objects _ is)
told H line batch now step places objects E (Some edge) (inl tells) log =
    let same = same_step step tells.0 places (places_of_all [] batch) objects _ tells.2 in
    subst (λ (p : List ℕ). Named line batch now E step p) (sym same.1)
    (subst (λ (s : Step). Named line batch now E s (places_of_all [] batch)) (sym same.0)
    (named H line batch now E tells.0 tells.5 log.size))
told H line batch now step places objects E (Some edge) (inr none) log = absurd (no_refusal step places objects none.1 none.2)

told_near : (H : List ℕ → List ℕ) (line : StateLine) (batch : List BatchEntry) (now most : ℕ) (step : Step) (places : List ℕ) (objects : List Reference) (E : List Tiled)
    (edge : Option (List (List ℕ) × List ℕ)) → IsBoundedReplyBy H line edge batch now most (steps step places objects) → IsLog H E line
    → Named line batch now E step places
told_near H line batch now most step places objects E edge (inl far) log = absurd (no_refusal step places objects _ far.1)
told_near H line batch now most step places objects E edge (inr near) log = told H line batch now step places objects E edge near.1 log

pub receipts_name_entries : ReceiptsNameEntries
receipts_name_entries H line batch contents now most step places objects E known (inl of) log =
    let same : of.0 ≡ line = state_lines_differ of.0 line of.1 known of.2 in
    told_near H line batch now most step places objects E (edge_of line.tree_size contents)
    (subst (λ (l : StateLine). IsBoundedReplyBy H l (edge_of l.tree_size contents) batch now most (steps step places objects)) same of.3) log
receipts_name_entries H line batch contents now most step places objects E known (inr none) log = absurd (no_refusal step places objects _ none.1)
