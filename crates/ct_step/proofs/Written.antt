-- Objects that are written one after the other.
use Rattle.std.proofs.Common.{◌≡◌, ◌∙◌, ◌+◌, ◌<◌, ℕ, zero, suc, List, add-one, [], ◌∷◌, ◌++◌, sym, refl, ap, arith, append_assoc}
use Rattle.std.proofs.lemmas.List.{append-nil}
use Rattle.ct_step.specs.Bundle.{bundled_text, bundle_text}
use Rattle.ct_step.specs.Objects.{each_from}
use Rattle.ct_step.proofs.Bundles.{bundle-push, bundle-append}

pub each-none : (f : ℕ → List ℕ × List ℕ) (first : ℕ) → each_from f first 0 ≡ []
unfolding each_from
each-none f first = refl

pub each-more : (f : ℕ → List ℕ × List ℕ) (first count : ℕ) → each_from f first (count + 1) ≡ each_from f first count ++ f (first + count) ∷ []
unfolding each_from
each-more f first count = rw add-one refl

pub each-same : (f g : ℕ → List ℕ × List ℕ) (first second count : ℕ) → ((i : ℕ) → i < count → f (first + i) ≡ g (second + i))
    → each_from f first count ≡ each_from g second count
unfolding each_from
each-same f g first second zero same = refl
each-same f g first second (suc count) same =
    ap (λ (x : List (List ℕ × List ℕ)). x ++ f (first + count) ∷ []) (each-same f g first second count (λ i h. same i (omega (arith, h))))
    ∙ ap (λ (x : List ℕ × List ℕ). each_from g second count ++ x ∷ []) (same count (omega arith))

pub written-none : (b c : List ℕ) (f : ℕ → List ℕ × List ℕ) (first : ℕ) → c ≡ b → c ≡ b ++ bundle_text (each_from f first 0)
written-none b c f first e =
    e ∙ sym (ap (λ (x : List (List ℕ × List ℕ)). b ++ bundle_text x) (each-none f first) ∙ append-nil b)

pub written-push : (b old new : List ℕ) (x : List (List ℕ × List ℕ)) (o p : List ℕ × List ℕ) → old ≡ b ++ bundle_text x → new ≡ old ++ bundled_text o
    → o ≡ p → new ≡ b ++ bundle_text (x ++ p ∷ [])
written-push b old new x o p w n e =
    n ∙ ap (λ (y : List ℕ). y ++ bundled_text o) w ∙ append_assoc b (bundle_text x) (bundled_text o)
    ∙ ap (λ (y : List ℕ). b ++ y) (sym (bundle-push x o))
    ∙ ap (λ (q : List ℕ × List ℕ). b ++ bundle_text (x ++ q ∷ [])) e

pub written-more : (b old new : List ℕ) (f : ℕ → List ℕ × List ℕ) (first i : ℕ) (o : List ℕ × List ℕ) → old ≡ b ++ bundle_text (each_from f first i)
    → new ≡ old ++ bundled_text o → o ≡ f (first + i) → new ≡ b ++ bundle_text (each_from f first (i + 1))
written-more b old new f first i o w n e =
    written-push b old new (each_from f first i) o (f (first + i)) w n e
    ∙ ap (λ (x : List (List ℕ × List ℕ)). b ++ bundle_text x) (sym (each-more f first i))

pub written-both : (b old new : List ℕ) (x y : List (List ℕ × List ℕ)) → old ≡ b ++ bundle_text x → new ≡ old ++ bundle_text y → new ≡ b ++ bundle_text (x ++ y)
written-both b old new x y w n =
    n ∙ ap (λ (z : List ℕ). z ++ bundle_text y) w ∙ append_assoc b (bundle_text x) (bundle_text y) ∙ ap (λ (z : List ℕ). b ++ z) (sym (bundle-append x y))
