-- Places in one of 64 parts.
use Rattle.std.proofs.Common.{◌≡◌, ℕ, zero, suc, ◌+◌, ◌*◌, ◌/◌, ◌%◌, ◌<◌, ◌≤◌, ◌≢◌, List, [], ◌∷◌, ◌++◌, length, get_or, refl, ap, sym, ◌∙◌, arith, append_assoc}
use Rattle.std.proofs.Common.{inl, inr}
use Rattle.std.proofs.lemmas.List.{append-nil, length-set}
use Rattle.std.proofs.lemmas.Bool.{cases_lt, cases_eq}
use Rattle.std.proofs.lemmas.Grind.{common_steps}
use Rattle.std.specs.Prelude.{Some, slice_get, slice_set, Vec}
use Rattle.std.specs.Global.{Global}
use Rattle.shared_table.specs.declared.slots.Slot.{Slot}
use Rattle.shared_table.specs.Looked.{places_in, if_at, in_part, at_index, below, AreParts, AreMore}

pub places_in-append : (xs ys : List Slot) (a : ℕ) → places_in (xs ++ ys) a ≡ places_in xs a ++ places_in ys a
places_in-append [] ys a = refl
places_in-append (s ∷ xs) ys a =
    ap (λ (r : List ℕ). if_at s.address s.place a ++ r) (places_in-append xs ys a)
    ∙ sym (append_assoc (if_at s.address s.place a) (places_in xs a) (places_in ys a))

pub places_in-push : (xs : List Slot) (s : Slot) (a : ℕ) → places_in (xs ++ s ∷ []) a ≡ places_in xs a ++ if_at s.address s.place a
places_in-push xs s a = places_in-append xs (s ∷ []) a ∙ ap (λ (r : List ℕ). places_in xs a ++ r) (append-nil (if_at s.address s.place a))

-- an address without its lowest six bits, and with them
if_at-same : (a b p i : ℕ) → a % 64 ≡ i → if_at (a / 64) p b ≡ if_at a p (b * 64 + i)
if_at-same a b p i same = grind (arith, common_steps)

if_at-other : (a b p i : ℕ) → i < 64 → a % 64 ≢ i → if_at a p (b * 64 + i) ≡ []
if_at-other a b p i small other = grind (arith, common_steps)

-- the elements of a list after one was added
get_left : {A : Type 0} (xs : List A) (y : A) (i : ℕ) → i < length xs → slice_get (xs ++ y ∷ []) i ≡ slice_get xs i
get_left [] y i h = absurd (omega arith)
get_left (x ∷ xs) y zero h = refl
get_left (x ∷ xs) y (suc i) h = get_left xs y i (omega arith)

get_end : {A : Type 0} (xs : List A) (y : A) → slice_get (xs ++ y ∷ []) (length xs) ≡ Some y
get_end [] y = refl
get_end (x ∷ xs) y = get_end xs y

-- one part more
pub part_more : {A : Type 0} (now old : List A) (look : A → ℕ → List ℕ) (slots part : List Slot) (n : ℕ) (x : A) → length now ≡ n → AreMore now old look slots n
    → ((b : ℕ) → look x b ≡ at_index old look n b ++ places_in part b) → ((b : ℕ) → places_in part b ≡ places_in slots (b * 64 + n))
    → AreMore (now ++ x ∷ []) old look slots (n + 1)
part_more now old look slots part n x size are this is k small b = elim (cases_lt k n) [
  | inl less ↦ ap (λ (o : _). in_part o look b) (get_left now x k (omega arith)) ∙ are k less b
  | inr last ↦
      let e : k ≡ n = omega arith in
      let f : k ≡ length now = omega arith in
      ap (λ (o : _). in_part o look b) (ap (slice_get (now ++ x ∷ [])) f ∙ get_end now x)
      ∙ this b
      ∙ ap (λ (r : List ℕ). at_index old look n b ++ r) (is b)
      ∙ ap (λ (m : ℕ). at_index old look m b ++ places_in slots (b * 64 + m)) (sym e)
]

-- all parts are the earlier ones with the places of the slots, and the same holds for the lookup across all parts
pub all_parts : {A : Type 0} (now old : List A) (look : A → ℕ → List ℕ) (slots : List Slot) → AreMore now old look slots 64 → (a : ℕ)
    → below now look a ≡ below old look a ++ places_in slots a
all_parts now old look slots are a =
    let e : a / 64 * 64 + a % 64 ≡ a = omega arith in
    are (a % 64) (omega arith) (a / 64) ∙ ap (λ (n : ℕ). below old look a ++ places_in slots n) e

-- the places found in the part at an index
found_at : {A : Type 0} (xs : List A) (look : A → ℕ → List ℕ) (x : A) (i b : ℕ) → i < length xs → x ≡ get_or xs i x → at_index xs look i b ≡ look x b
found_at [] look x i b h e = absurd (omega arith)
found_at (y ∷ xs) look x zero b h e = ap (λ (z : _). look z b) (sym e)
found_at (y ∷ xs) look x (suc i) b h e = found_at xs look x i b (omega arith) e

-- a part that does not exist yet
nothing_at : {A : Type 0} (xs : List A) (look : A → ℕ → List ℕ) (i b : ℕ) → length xs ≤ i → at_index xs look i b ≡ []
nothing_at [] look i b past = refl
nothing_at (x ∷ xs) look zero b past = absurd (omega arith)
nothing_at (x ∷ xs) look (suc i) b past = nothing_at xs look i b (omega arith)

pub part_begins : {A : Type 0} (xs : List A) (look : A → ℕ → List ℕ) (y : A) (i : ℕ) (part : List Slot) → length xs ≤ i
    → ((b : ℕ) → look y b ≡ places_in part b)
    → (b : ℕ) → look y b ≡ at_index xs look i b ++ places_in part b
part_begins xs look y i part past new b = new b ∙ ap (λ (r : List ℕ). r ++ places_in part b) (sym (nothing_at xs look i b past))

-- a slot as a part stores it: its address lacks the lowest six bits
abbrev pub lowered : Slot → Slot
lowered s = record { address = s.address / 64; place = s.place }

-- the elements of a list after one was replaced
get_set-same : {A : Type 0} (xs : List A) (y : A) (i : ℕ) → i < length xs → slice_get (slice_set xs i y) i ≡ Some y
get_set-same [] y i h = absurd (omega arith)
get_set-same (x ∷ xs) y zero h = refl
get_set-same (x ∷ xs) y (suc i) h = get_set-same xs y i (omega arith)

get_set-other : {A : Type 0} (xs : List A) (y : A) (i k : ℕ) → k ≢ i → slice_get (slice_set xs i y) k ≡ slice_get xs k
get_set-other [] y i k other = refl
get_set-other (x ∷ xs) y zero zero other = absurd (other refl)
get_set-other (x ∷ xs) y zero (suc k) other = refl
get_set-other (x ∷ xs) y (suc i) zero other = refl
get_set-other (x ∷ xs) y (suc i) (suc k) other = get_set-other xs y i k (λ e. other (ap suc e))

-- parts in which nothing is found, and one more of them
pub empty_push : {A : Type 0} (xs : List A) (look : A → ℕ → List ℕ) (y : A) → ((b : ℕ) → look y b ≡ []) → ((k b : ℕ) → at_index xs look k b ≡ [])
    → (k b : ℕ) → at_index (xs ++ y ∷ []) look k b ≡ []
empty_push [] look y none are zero b = none b
empty_push [] look y none are (suc k) b = refl
empty_push (x ∷ xs) look y none are zero b = are zero b
empty_push (x ∷ xs) look y none are (suc k) b = empty_push xs look y none (λ j c. are (suc j) c) k b

-- one more part, with the slots of the part at that index
pub slots_more : {A : Type 0} (now old : List A) (look : A → ℕ → List ℕ) (parts : List (Vec Slot Global)) (part : Vec Slot Global) (taken : List Slot)
    (n : ℕ) (x : A) → length now ≡ n → n < 64 → length parts ≡ 64 → part ≡ get_or parts n part → taken ≡ part.items
    → ((b : ℕ) → look x b ≡ at_index old look n b ++ places_in taken b)
    → ((slots : List Slot) → AreParts parts slots → AreMore now old look slots n)
    → (slots : List Slot) → AreParts parts slots → AreMore (now ++ x ∷ []) old look slots (n + 1)
slots_more now old look parts part taken n x size small count at is this are slots of_parts =
    let inside : n < length parts = omega arith in
    part_more now old look slots taken n x size (are slots of_parts) this
    (λ b. ap (λ (xs : List Slot). places_in xs b) is
    ∙ sym (found_at parts (λ p c. places_in p.items c) part n b inside at)
    ∙ of_parts.1 n small b)

-- a slot is added to the part that the lowest six bits of its address select
pub part_put : (parts : List (Vec Slot Global)) (slots : List Slot) (s : Slot) (old new : Vec Slot Global) → old ≡ get_or parts (s.address % 64) old
    → ((b : ℕ) → places_in new.items b ≡ places_in old.items b ++ if_at (s.address / 64) s.place b)
    → AreParts parts slots → AreParts (slice_set parts (s.address % 64) new) (slots ++ s ∷ [])
part_put parts slots s old new is more are =
    let look : Vec Slot Global → ℕ → List ℕ = λ p c. places_in p.items c in
    let i = s.address % 64 in
    let small : i < 64 = omega arith in
    let size : length parts ≡ 64 = are.0 in
    let inside : i < length parts = omega arith in (
      length-set parts i new ∙ size,
      λ k below b. elim (cases_eq k i) [
        | inl same ↦
            ap (λ (n : ℕ). at_index (slice_set parts i new) look n b) same
            ∙ ap (λ (o : _). in_part o look b) (get_set-same parts new i inside)
            ∙ more b
            ∙ ap (λ (r : List ℕ). r ++ if_at (s.address / 64) s.place b) (sym (found_at parts look old i b inside is) ∙ are.1 i small b)
            ∙ ap (λ (r : List ℕ). places_in slots (b * 64 + i) ++ r) (if_at-same s.address b s.place i refl)
            ∙ sym (places_in-push slots s (b * 64 + i))
            ∙ ap (λ (n : ℕ). places_in (slots ++ s ∷ []) (b * 64 + n)) (sym same)
        | inr other ↦
            ap (λ (o : _). in_part o look b) (get_set-other parts new i k other)
            ∙ are.1 k below b
            ∙ sym (append-nil (places_in slots (b * 64 + k)))
            ∙ ap (λ (r : List ℕ). places_in slots (b * 64 + k) ++ r) (sym (if_at-other s.address b s.place k below (λ e. other (sym e))))
            ∙ sym (places_in-push slots s (b * 64 + k))
      ],
    )

-- a part is unchanged if no slot is added to it
pub part_stays : {A : Type 0} (xs : List A) (look : A → ℕ → List ℕ) (x y : A) (i : ℕ) (part : List Slot) → i < length xs → x ≡ get_or xs i x → part ≡ []
    → ((b : ℕ) → look y b ≡ look x b)
    → (b : ℕ) → look y b ≡ at_index xs look i b ++ places_in part b
part_stays xs look x y i part h e none same b =
    same b ∙ sym (found_at xs look x i b h e) ∙ sym (append-nil (at_index xs look i b))
    ∙ ap (λ (ps : List Slot). at_index xs look i b ++ places_in ps b) (sym none)

-- or it has the added slots after its own
pub part_grows : {A : Type 0} (xs : List A) (look : A → ℕ → List ℕ) (x y : A) (i : ℕ) (part : List Slot) → i < length xs → x ≡ get_or xs i x
    → ((b : ℕ) → look y b ≡ look x b ++ places_in part b)
    → (b : ℕ) → look y b ≡ at_index xs look i b ++ places_in part b
part_grows xs look x y i part h e more b = more b ∙ ap (λ (r : List ℕ). r ++ places_in part b) (sym (found_at xs look x i b h e))

-- waiting slots that are added after other waiting slots
pub waits : (base : List ℕ) (fresh slots more : List Slot) (b : ℕ) → more ≡ fresh ++ slots
    → base ++ places_in more b ≡ (base ++ places_in fresh b) ++ places_in slots b
waits base fresh slots more b joined =
    ap (λ (m : List Slot). base ++ places_in m b) joined
    ∙ ap (λ (r : List ℕ). base ++ r) (places_in-append fresh slots b)
    ∙ sym (append_assoc base (places_in fresh b) (places_in slots b))

pub below_same : {A : Type 0} (xs ys : List A) (look : A → ℕ → List ℕ) (r : List ℕ) (a : ℕ) → xs ≡ ys → below xs look a ++ r ≡ below ys look a ++ r
below_same xs ys look r a e = ap (λ (zs : _). below zs look a ++ r) e
