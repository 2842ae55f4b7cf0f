-- The host in a mail address and in a URI.
use Rattle.std.proofs.Common.{◌≡◌, ℕ, List, [], ◌∷◌, length, take, Option, Some, None, refl, ap, inl, inr}
use Rattle.std.specs.Prelude.{◌==◌, ◌||◌}
use Rattle.std.proofs.lemmas.Bool.{cases_Bool}
use Rattle.ct_names.specs.Hosts.{latest, before_any}

pub latest_again : (a b c : Option (List ℕ)) → latest (latest a b) c ≡ latest a (latest b c)
latest_again None b c = refl
latest_again (Some x) b c = refl

pub before_is_front : (one two three : ℕ) (b : List ℕ) → take (length (before_any one two three b)) b ≡ before_any one two three b
before_is_front one two three [] = refl
before_is_front one two three (x ∷ b) =
    elim (cases_Bool ((x == one) || (x == two) || (x == three))) [
      | inl p ↦ rw p refl
      | inr p ↦ rw p (ap (λ (l : List ℕ). x ∷ l) (before_is_front one two three b))
    ]
