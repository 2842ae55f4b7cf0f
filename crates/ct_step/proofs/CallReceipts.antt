-- The receipts of a step at some indexes, one after the other.
use Rattle.std.proofs.Common.{◌≡◌, ◌∙◌, ◌+◌, ◌<◌, ℕ, List, [], ◌∷◌, ◌++◌, map, take, length, get_or, Option, Some, None, sym, ap, append-nil, append_assoc}
use Rattle.std.specs.List.{flat_map}
use Rattle.std.specs.Prelude.{filter_map, slice_get, option_map}
use Rattle.std.proofs.lemmas.List.{take_more}
use Rattle.std.proofs.lemmas.List.Elements.{filter_map-append}
use Rattle.std.proofs.lemmas.Option.{slice_get-map}
use Rattle.ct_step.specs.Leaves.{receipt_parts}
use Rattle.ct_step.specs.declared.receipts.Receipt.{Receipt}
use Rattle.ct_step.specs.StepReplies.{receipt_text}
use Rattle.ct_step.proofs.Pushed.{flat-push}

-- the receipts at the first indexes
abbrev chosen : List Receipt → List ℕ → List (ℕ × ℕ × List ℕ)
chosen receipts places = filter_map (slice_get (map receipt_parts receipts)) places

abbrev Parts : Type 0
Parts = ℕ × ℕ × List ℕ

-- the receipts that one index adds
abbrev of_place : Option Parts → List Parts
of_place None = []
of_place (Some r) = r ∷ []

one : (h : ℕ → Option Parts) (p : ℕ) (o : Option Parts) → h p ≡ o → filter_map h (p ∷ []) ≡ of_place o
one h p o e = same o (h p) e
  where
    same : (o f : Option Parts) → f ≡ o → filter_map (λ (q : ℕ). f) (p ∷ []) ≡ of_place o
    same None f e = cc
    same (Some r) f e = cc

chosen-more : (receipts : List Receipt) (places : List ℕ) (i place : ℕ) (o : Option Parts) → i < length places → place ≡ get_or places i place
    → slice_get (map receipt_parts receipts) place ≡ o → chosen receipts (take (i + 1) places) ≡ chosen receipts (take i places) ++ of_place o
chosen-more receipts places i place o h is e =
    let f = slice_get (map receipt_parts receipts) in
    ap (filter_map f) (take_more places i place h ∙ ap (λ (p : ℕ). take i places ++ p ∷ []) (sym is))
    ∙ filter_map-append f (take i places) (place ∷ [])
    ∙ ap (λ x. chosen receipts (take i places) ++ x) (one f place o e)

-- an index that has a receipt
pub receipt-more : (receipts : List Receipt) (places : List ℕ) (i place : ℕ) (r : Receipt) (before text after : List ℕ)
    → i < length places → place ≡ get_or places i place → slice_get receipts place ≡ Some r
    → text ≡ before ++ flat_map receipt_text (chosen receipts (take i places)) → after ≡ text ++ receipt_text (receipt_parts r)
    → after ≡ before ++ flat_map receipt_text (chosen receipts (take (i + 1) places))
receipt-more receipts places i place r before text after h is found written item =
    let here : slice_get (map receipt_parts receipts) place ≡ Some (receipt_parts r) =
    slice_get-map receipt_parts receipts place ∙ ap (option_map receipt_parts) found in
    let now = chosen receipts (take i places) in
    item ∙ ap (λ (x : List ℕ). x ++ receipt_text (receipt_parts r)) written
    ∙ append_assoc before (flat_map receipt_text now) (receipt_text (receipt_parts r))
    ∙ ap (λ (x : List ℕ). before ++ x) (sym (flat-push receipt_text now (receipt_parts r))
    ∙ ap (flat_map receipt_text) (sym (chosen-more receipts places i place (Some (receipt_parts r)) h is here)))

-- an index that has none
pub receipt-passed : (receipts : List Receipt) (places : List ℕ) (i place : ℕ) (before text : List ℕ)
    → i < length places → place ≡ get_or places i place → slice_get receipts place ≡ None
    → text ≡ before ++ flat_map receipt_text (chosen receipts (take i places))
    → text ≡ before ++ flat_map receipt_text (chosen receipts (take (i + 1) places))
receipt-passed receipts places i place before text h is found written =
    let here : slice_get (map receipt_parts receipts) place ≡ None =
    slice_get-map receipt_parts receipts place ∙ ap (option_map receipt_parts) found in
    let now = chosen receipts (take i places) in
    written ∙ ap (λ (x : List Parts). before ++ flat_map receipt_text x) (sym (chosen-more receipts places i place None h is here ∙ append-nil now))
