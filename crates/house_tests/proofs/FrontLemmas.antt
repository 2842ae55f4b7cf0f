-- Fronts of one house, taken together, and those of a list of two.
use Rattle.std.proofs.Common.{◌≡◌, ℕ, ◌<◌, List, [], ◌∷◌, ◌++◌, length, sym, ap, ◌∙◌, subst, arith, get_or, length-append}
use Rattle.std.proofs.lemmas.List.{length-replicate}
use Rattle.std.proofs.lemmas.Option.{slice_get-get_or}
use Rattle.std.specs.Prelude.{All, Some, slice_get, slice_index_or}
use Rattle.house_tests.specs.Fronts.{SameFront}
use Rattle.ct_house.specs.House.{HouseName, HouseState, FrontView, IsOfHouse, IsNewHouse, empty_lane}

-- the fronts of a new house belong to it
pub of_new_house : (s : HouseState) (fronts : List FrontView) (n places now : ℕ) → IsNewHouse s fronts n places now → All (IsOfHouse s.house) fronts
of_new_house s fronts n places now f k d below = (f.each k (get_or fronts k d) (slice_get-get_or fronts k d below)).of_house

pub lanes_of_new_house : (s : HouseState) (fronts : List FrontView) (n places now : ℕ) → IsNewHouse s fronts n places now → length s.lanes ≡ n
lanes_of_new_house s fronts n places now f = ap length f.lanes ∙ length-replicate n empty_lane

-- the same front belongs to the same house
pub same_front : (a b : HouseName) (old new : FrontView) → b ≡ a → SameFront old new → IsOfHouse a old → IsOfHouse b new
same_front a b old new e s o = subst (λ (h : HouseName). IsOfHouse h new) (sym e) (record {
  gate = s.0.0 ∙ o.gate;
  ring = ap (slice_get a.rings) s.0.1 ∙ o.ring ∙ ap Some (sym s.0.2);
  series = s.1 ∙ o.series;
})

-- the fronts in a list's elements still belong to the house
pub still_of_house : {X : Type 0} (f : X → FrontView) (a b : HouseName) (old new : List X) → b ≡ a → length new ≡ length old
    → ((k : ℕ) (d : X) → k < length old → SameFront (f (slice_index_or old k d)) (f (slice_index_or new k d))) → All (λ x. IsOfHouse a (f x)) old
    → All (λ x. IsOfHouse b (f x)) new
still_of_house f a b old new e count same all k d below =
    let within : k < length old = omega arith in
    same_front a b (f (slice_index_or old k d)) (f (slice_index_or new k d)) e (same k d within) (all k d within)

-- a list of two whose last two elements were removed
pub two_last : {X : Type 0} (l l1 l2 : List X) (last first : X) → length l ≡ 2 → l ≡ l1 ++ last ∷ [] → l1 ≡ l2 ++ first ∷ [] → l ≡ first ∷ last ∷ []
two_last {X} l l1 [] last first two e f = e ∙ ap (λ (m : List X). m ++ last ∷ []) f
two_last {X} l l1 (x ∷ xs) last first two e f = absurd (omega (arith, ap length e, ap length f, length-append l1 (last ∷ []), length-append xs (first ∷ [])))
