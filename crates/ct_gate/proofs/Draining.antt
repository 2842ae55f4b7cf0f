-- The items that were received, compared with those that were sent.
use Rattle.std.proofs.Common.{◌≡◌, ◌<◌, ℕ, suc, List, [], ◌∷◌, ◌++◌, length, All, refl, sym, ap, ◌∙◌, subst, arith, length-append, append-nil, append_assoc}
use Rattle.std.proofs.Common.{IsTrue, nat_eq}
use Rattle.std.proofs.lemmas.Bool.Decides.{nat_tests}
use Rattle.std.proofs.lemmas.List.{map-append, length-map, nil_from_length}
use mathlib.Core.List.{IsPrefix}
use Rattle.ct_codec.specs.declared.item.Item.{Item}
use Rattle.ct_gate.specs.Ends.{from_front, made_item}

own_front : (n : ℕ) (xs : List Item) → All (λ (t : Item). t.front ≡ n) xs → from_front n xs ≡ xs
own_front n [] h = refl
own_front n (x ∷ xs) h = λ i. record { front = sym (h 0 x (omega arith)) i; ticket = x.ticket; submission = x.submission }
    ∷ own_front n xs (λ k d lt. h (suc k) d (omega arith)) i

-- n is the outlet's number and m the intake's
pub in_order : (n m : ℕ) (taken known sent : List Item) → taken ++ known ≡ sent → All (λ (t : Item). t.front ≡ m) sent → n ≡ m
    → from_front n taken ++ from_front n known ≡ sent
in_order n m taken known sent e h same =
    sym (map-append (λ (t : Item). made_item n t.ticket t.submission) taken known) ∙ ap (from_front n) e
    ∙ own_front n sent (subst (λ (k : ℕ). All (λ (t : Item). t.front ≡ k) sent) (sym same) h)

pub all_taken : (n m : ℕ) (taken known sent : List Item) → taken ++ known ≡ sent → All (λ (t : Item). t.front ≡ m) sent → n ≡ m → length known ≡ 0
    → from_front n taken ≡ sent
all_taken n m taken known sent e h same none =
    sym (append-nil (from_front n taken)) ∙ ap (λ (l : List Item). from_front n taken ++ from_front n l) (sym (nil_from_length known none))
    ∙ in_order n m taken known sent e h same

pub none_known : (n : ℕ) (taken known sent : List Item) → taken ++ known ≡ sent → from_front n taken ≡ sent → length known ≡ 0
none_known n taken known sent e all =
    omega (arith, length-append taken known, ap length e, ap length all, length-map taken (λ (t : Item). made_item n t.ticket t.submission))

pub popped : (before after known left sent : List Item) (x : Item) → after ≡ before ++ x ∷ [] → known ≡ x ∷ left → before ++ known ≡ sent → after ++ left ≡ sent
popped before after known left sent x grown first all =
    ap (λ (l : List Item). l ++ left) grown ∙ append_assoc before (x ∷ []) left ∙ ap (λ (l : List Item). before ++ l) (sym first) ∙ all

pub is_zero : (n : ℕ) → IsTrue (nat_eq n 0) → n ≡ 0
is_zero n h = grind (arith, nat_tests)

-- the items that were in sight are a prefix of those in sight now
pub still_seen : (n : ℕ) (before after : List Item) → IsPrefix before after → IsPrefix (from_front n before) (from_front n after)
still_seen n before after (more, e) = (from_front n more, sym (map-append (λ (t : Item). made_item n t.ticket t.submission) before more) ∙ ap (from_front n) e)

pub taken_first : (n : ℕ) (before after : List Item) (x i : Item) → IsPrefix before (x ∷ after) → i ≡ made_item n x.ticket x.submission
    → IsPrefix (from_front n before) (i ∷ from_front n after)
taken_first n before after x i first e =
    subst (λ (y : Item). IsPrefix (from_front n before) (y ∷ from_front n after)) (sym e) (still_seen n before (x ∷ after) first)

pub none_before : (known : List Item) → (0 < length known → ⊥) → known ≡ []
none_before [] h = refl
none_before (x ∷ xs) h = absurd (h (omega arith))
