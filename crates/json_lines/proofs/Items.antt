-- The byte strings and hashes that a list of JSON values represents, step by step.
use Rattle.std.proofs.Common.{◌≡◌, ◌∙◌, ℕ, ◌+◌, ◌<◌, ◌≤◌, List, [], ◌∷◌, ◌++◌, length, get_or, drop, Option, Some, None, refl, sym, ap, append_assoc, append-nil}
use Rattle.std.specs.Prelude.{option_map, option_and_then}
use Rattle.std.proofs.lemmas.List.{at_drop_more, at_drop_all}
use Rattle.serde_json.specs.Data.{Data}
use Rattle.serde_json.specs.View.{view, items_view}
use Rattle.serde_json.specs.declared.value.Value.{Value}
use Rattle.json_lines.specs.Fields.{each_item, bytes_of_items, hashes_of_items}

-- the byte strings that the values represent
abbrev pub bytes_of_values : List Value → Option (List (List ℕ))
bytes_of_values vs = bytes_of_items (items_view vs)

abbrev pub hashes_of_values : List Value → Option (List (List ℕ))
hashes_of_values vs = hashes_of_items (items_view vs)

-- a list, if there is one, with other elements in front
abbrev pub with_front : List (List ℕ) → Option (List (List ℕ)) → Option (List (List ℕ))
with_front front o = option_map (λ bs. front ++ bs) o

-- the results of f for the values, with other elements in front
abbrev pub behind_front : (Data → Option (List ℕ)) → List (List ℕ) → List Value → Option (List (List ℕ))
behind_front f front vs = with_front front (each_item f (items_view vs))

nothing_in_front : (o : Option (List (List ℕ))) → with_front [] o ≡ o
nothing_in_front None = refl
nothing_in_front (Some bs) = refl

front_grows : (front : List (List ℕ)) (b : List ℕ) (o : Option (List (List ℕ))) → with_front front (option_map (λ bs. b ∷ bs) o) ≡ with_front (front ++ b ∷ []) o
front_grows front b None = refl
front_grows front b (Some bs) = ap Some (sym (append_assoc front (b ∷ []) bs))

-- before the first value
pub front_none : (f : Data → Option (List ℕ)) (vs : List Value) (front : List (List ℕ)) → front ≡ [] → behind_front f front vs ≡ each_item f (items_view vs)
front_none f vs front none = ap (λ l. behind_front f l vs) none ∙ nothing_in_front (each_item f (items_view vs))

-- the value at an index has a result, which is then added in front
pub front_more : (f : Data → Option (List ℕ)) (vs : List Value) (i : ℕ) (v : Value) (front front2 : List (List ℕ)) (b : List ℕ) → i < length vs → v ≡ get_or vs i v
    → Some b ≡ f (view v) → front2 ≡ front ++ b ∷ [] → behind_front f front2 (drop (i + 1) vs) ≡ behind_front f front (drop i vs)
front_more f vs i v front front2 b h at is more =
    let rest = each_item f (items_view (drop (i + 1) vs)) in
    ap (λ l. with_front l rest) more
    ∙ sym (at_drop_more (behind_front f front) vs i v h
    ∙ ap (λ (x : Value). with_front front (option_and_then (λ c. option_map (λ bs. c ∷ bs) rest) (f (view x)))) (sym at)
    ∙ ap (λ o. with_front front (option_and_then (λ c. option_map (λ bs. c ∷ bs) rest) o)) (sym is)
    ∙ front_grows front b rest)

-- the value at an index has no result
pub front_stops : (f : Data → Option (List ℕ)) (vs : List Value) (i : ℕ) (v : Value) (front : List (List ℕ)) → i < length vs → v ≡ get_or vs i v
    → None ≡ f (view v) → None ≡ behind_front f front (drop i vs)
front_stops f vs i v front h at is =
    let rest = each_item f (items_view (drop (i + 1) vs)) in
    sym (at_drop_more (behind_front f front) vs i v h
    ∙ ap (λ (x : Value). with_front front (option_and_then (λ c. option_map (λ bs. c ∷ bs) rest) (f (view x)))) (sym at)
    ∙ ap (λ o. with_front front (option_and_then (λ c. option_map (λ bs. c ∷ bs) rest) o)) (sym is))

-- after the last value
pub front_all : (f : Data → Option (List ℕ)) (vs : List Value) (i : ℕ) (front : List (List ℕ)) → length vs ≤ i → Some front ≡ behind_front f front (drop i vs)
front_all f vs i front h = sym (at_drop_all (behind_front f front) vs i h ∙ ap Some (append-nil front))
