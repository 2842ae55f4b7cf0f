-- Fronts in order.
use Rattle.std.proofs.Common.{◌≡◌, ℕ, ◌+◌, List, length, ap, sym, ◌∙◌, arith, get_or}
use Rattle.std.proofs.lemmas.List.{length-map}
use Rattle.std.proofs.lemmas.List.FromFn.{length-range_with_len, get_or-range_with_len}
use Rattle.std.proofs.lemmas.Option.{slice_get_within, get_or_from_slice_get, slice_get-map}
use Rattle.std.specs.Prelude.{Some, slice_get}
use Rattle.std.specs.Option.{option_map}
use Rattle.ct_house.specs.House.{FrontView, AreInOrder, numbers_of}

-- the number of fronts that are in order
pub order_count : (n : ℕ) (fronts : List FrontView) → AreInOrder n fronts → length fronts ≡ n
order_count n fronts o = sym (length-map fronts (λ (f : FrontView). f.intake.number)) ∙ ap length o ∙ length-range_with_len 0 n

-- if fronts are in order, the number of each is its index
pub order_at : (n : ℕ) (fronts : List FrontView) (k : ℕ) (f : FrontView) → AreInOrder n fronts → slice_get fronts k ≡ Some f → f.intake.number ≡ k
order_at n fronts k f o at =
    let below = slice_get_within fronts k f at in
    let count = order_count n fronts o in
    let z : 0 + k ≡ k = omega arith in
    let here : slice_get (numbers_of fronts) k ≡ Some f.intake.number = slice_get-map (λ (x : FrontView). x.intake.number) fronts k
    ∙ ap (option_map (λ (x : FrontView). x.intake.number)) at in
    sym (get_or_from_slice_get (numbers_of fronts) k f.intake.number 0 here) ∙ ap (λ (zs : List ℕ). get_or zs k 0) o
    ∙ get_or-range_with_len 0 n k 0 (omega arith) ∙ z
