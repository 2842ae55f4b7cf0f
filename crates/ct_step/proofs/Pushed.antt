-- Texts that are written one after the other.
use Rattle.std.proofs.Common.{◌≡◌, ◌∙◌, ◌+◌, ◌<◌, ◌≤◌, ℕ, List, [], ◌∷◌, ◌++◌, map, take, length, get_or, sym, ap, append-nil, append_assoc}
use Rattle.std.proofs.lemmas.List.{take_more, take_all, map_push}
use Rattle.std.specs.List.{flat_map}

pub flat-push : {X : Type 0} (f : X → List ℕ) (xs : List X) (x : X) → flat_map f (xs ++ x ∷ []) ≡ flat_map f xs ++ f x
flat-push f [] x = append-nil (f x)
flat-push f (y ∷ xs) x = ap (λ (l : List ℕ). f y ++ l) (flat-push f xs x) ∙ sym (append_assoc (f y) (flat_map f xs) (f x))

-- one more is written
pub pushed-more : {X Y : Type 0} (p : X → Y) (f : Y → List ℕ) (E : List X) (i : ℕ) (t : X) (before text after : List ℕ) → i < length E → t ≡ get_or E i t
    → text ≡ before ++ flat_map f (map p (take i E)) → after ≡ text ++ f (p t) → after ≡ before ++ flat_map f (map p (take (i + 1) E))
pushed-more {X} {Y} p f E i t before text after h is written item =
    let now = map p (take i E) in
    let more : map p (take (i + 1) E) ≡ now ++ p t ∷ [] =
    ap (map p) (take_more E i t h ∙ ap (λ (x : X). take i E ++ x ∷ []) (sym is)) ∙ map_push p (take i E) t in
    item ∙ ap (λ (x : List ℕ). x ++ f (p t)) written ∙ append_assoc before (flat_map f now) (f (p t))
    ∙ ap (λ (x : List ℕ). before ++ x) (sym (flat-push f now (p t)) ∙ ap (flat_map f) (sym more))

-- all are written
pub pushed-all : {X Y : Type 0} (p : X → Y) (f : Y → List ℕ) (E : List X) (n : ℕ) (before text : List ℕ) → length E ≤ n
    → text ≡ before ++ flat_map f (map p (take n E)) → text ≡ before ++ flat_map f (map p E)
pushed-all {X} p f E n before text h written = written ∙ ap (λ (x : List X). before ++ flat_map f (map p x)) (take_all n E h)
