-- Facts about options and lists that are read from their end.
use Rattle.std.proofs.Common.{◌≡◌, refl, List, [], ◌∷◌, ◌++◌, reverse, Option, Some, None, is_some, true, false}
use Rattle.std.specs.Option.{option_map}
use Rattle.std.proofs.lemmas.Bool.{both_ways}
use Rattle.std.proofs.lemmas.List.{reverse-append}

pub reverse_first : {X : Type 0} (c : X) (p : List X) → reverse (c ∷ p) ≡ reverse p ++ c ∷ []
reverse_first c p = reverse-append (c ∷ []) p

pub reverse_last : {X : Type 0} (q : List X) (s : X) → reverse (q ++ s ∷ []) ≡ s ∷ reverse q
reverse_last q s = reverse-append q (s ∷ [])

pub same_some : {X : Type 0} (x y : X) → Some x ≡ Some y → x ≡ y
same_some x y e = cc

pub none_some : {X : Type 0} (x : X) → None ≡ Some x → ⊥
none_some x e = cc

pub mapped : {X Y : Type 0} (f : X → Y) (o : Option X) (y : Y) → option_map f o ≡ Some y → (x : X) × (o ≡ Some x) × (f x ≡ y)
mapped f None y e = absurd (none_some y e)
mapped f (Some x) y e = (x, refl, same_some (f x) y e)

-- the value that is present
pub held : {X : Type 0} (o : Option X) → is_some o ≡ true → (x : X) × (o ≡ Some x)
held None e = absurd (both_ways false refl e)
held (Some x) e = (x, refl)

pub some_mapped : {X Y : Type 0} (f : X → Y) (o : Option X) → is_some o ≡ true → is_some (option_map f o) ≡ true
some_mapped f None e = e
some_mapped f (Some x) e = refl
