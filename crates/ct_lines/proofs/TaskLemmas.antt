-- Tasks assigned one by one, and steps.
use Rattle.std.proofs.Common.{◌≡◌, List, [], ◌∷◌, ◌++◌, Option, sym, ap, ◌∙◌, append-nil}
use Rattle.std.specs.List.{filter_map}
use Rattle.std.proofs.lemmas.List.Elements.{filter_map-append}

-- a task that belongs to another part leaves this part unchanged
pub part_kept : {A T : Type 0} (f : T → Option A) (ts : List T) (t : T) (xs : List A) → xs ≡ filter_map f ts
    → filter_map f (t ∷ []) ≡ [] → xs ≡ filter_map f (ts ++ t ∷ [])
part_kept f ts t xs e none =
    e ∙ sym (append-nil (filter_map f ts)) ∙ ap (λ l. filter_map f ts ++ l) (sym none) ∙ sym (filter_map-append f ts (t ∷ []))

-- a task that belongs to this part comes last in it
pub part_grows : {A T : Type 0} (f : T → Option A) (ts : List T) (t : T) (xs : List A) (x : A) → xs ≡ filter_map f ts
    → filter_map f (t ∷ []) ≡ x ∷ [] → xs ++ x ∷ [] ≡ filter_map f (ts ++ t ∷ [])
part_grows f ts t xs x e one =
    ap (λ l. l ++ x ∷ []) e ∙ ap (λ l. filter_map f ts ++ l) (sym one) ∙ sym (filter_map-append f ts (t ∷ []))
