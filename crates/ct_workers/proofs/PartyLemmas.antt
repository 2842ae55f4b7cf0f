-- The fronts of a house remain its fronts, in the same order.
use Rattle.std.proofs.Common.{◌≡◌, ℕ, suc, List, [], ◌∷◌, ◌++◌, length, map, refl, sym, ap, subst, ◌∙◌, arith, reverse}
use Rattle.std.proofs.lemmas.List.Elements.{All-cons, length_all_zip}
use Rattle.std.specs.Prelude.{◌<◌, All, Some, Vec, slice_get}
use Rattle.std.specs.List.{range_with_len}
use Rattle.ct_workers.specs.FrontWork.{FrontGoesOn}
use Rattle.ct_house.specs.House.{HouseName, HouseState, FrontView, IsOfHouse, numbers_of}
use Rattle.ct_workers.specs.Fronts.{AreFrontsOf, AllGoOn}

of_house : (house : HouseName) (a b : FrontView) → FrontGoesOn a b → IsOfHouse house a → IsOfHouse house b
of_house house a b on own = record {
  gate = on.same.0 ∙ own.gate;
  ring = ap (slice_get house.rings) (on.same.1) ∙ own.ring ∙ ap Some (sym (on.same.2));
  series = on.moves.series ∙ own.series;
}

pub are_of_house : (house : HouseName) (xs ys : List FrontView) → AllGoOn xs ys → All (IsOfHouse house) xs → All (IsOfHouse house) ys
are_of_house house [] [] same own = λ k d below. absurd (omega arith)
are_of_house house [] (b ∷ ys) same own = absurd same
are_of_house house (a ∷ xs) [] same own = absurd same
are_of_house house (a ∷ xs) (b ∷ ys) (same, rest) own =
    All-cons (IsOfHouse house) b ys (of_house house a b same (own 0 a (omega arith))) (are_of_house house xs ys rest (λ k d below. own (suc k) d (omega arith)))

pub same_numbers : (xs ys : List FrontView) → AllGoOn xs ys → numbers_of ys ≡ numbers_of xs
same_numbers [] [] same = refl
same_numbers [] (b ∷ ys) same = absurd same
same_numbers (a ∷ xs) [] same = absurd same
same_numbers (a ∷ xs) (b ∷ ys) (on, rest) = ap (λ (n : ℕ). n ∷ numbers_of ys) (on.same.1) ∙ ap (λ (ns : List ℕ). a.intake.number ∷ ns) (same_numbers xs ys rest)

-- the fronts of a house remain its fronts, if the house and its number of lanes are unchanged
pub fronts_kept : (old new : HouseState) (xs ys : List FrontView) → new.house ≡ old.house → length new.lanes ≡ length old.lanes → AllGoOn xs ys
    → AreFrontsOf old xs → AreFrontsOf new ys
fronts_kept old new xs ys house count same i = record {
  of_house = subst (λ (h : HouseName). All (IsOfHouse h) ys) (sym house) (are_of_house old.house xs ys same i.of_house);
  in_order = same_numbers xs ys same ∙ i.in_order ∙ ap (range_with_len 0) (sym count);
  some = subst (λ (n : ℕ). 0 < n) (length_all_zip FrontGoesOn xs ys same) i.some;
}
