-- The fronts of a new house.
use Rattle.std.proofs.Common.{◌≡◌, ◌<◌, ◌+◌, ℕ, List, length, sym, ap, ◌∙◌, arith, get_or}
use Rattle.std.specs.Prelude.{All}
use Rattle.std.specs.List.{range_with_len}
use Rattle.std.proofs.lemmas.List.{same_lists, length-map, get_or-map, length-replicate}
use Rattle.std.proofs.lemmas.List.FromFn.{length-range_with_len, get_or-range_with_len}
use Rattle.std.proofs.lemmas.Option.{get_or_from_slice_get, slice_get-get_or}
use Rattle.ct_core.proofs.SettlementLemmas.{slice_get_is}
use Rattle.ct_house.specs.House.{HouseState, FrontView, IsNewHouse, IsOfHouse, AreInOrder, numbers_of, empty_lane}

-- a new house has as many lanes as fronts
pub lanes_of_new : (s : HouseState) (fronts : List FrontView) (n places now : ℕ) → IsNewHouse s fronts n places now → length s.lanes ≡ n
lanes_of_new s fronts n places now i = ap length i.lanes ∙ length-replicate n empty_lane

-- the fronts of a new house belong to it
pub new_of_house : (s : HouseState) (fronts : List FrontView) (n places now : ℕ) → IsNewHouse s fronts n places now → All (IsOfHouse s.house) fronts
new_of_house s fronts n places now i k d below = let f = i.each k (get_or fronts k d) (slice_get-get_or fronts k d below) in f.of_house

-- the fronts of a new house are in order
pub new_in_order : (s : HouseState) (fronts : List FrontView) (n places now : ℕ) → IsNewHouse s fronts n places now → AreInOrder (length s.lanes) fronts
new_in_order s fronts n places now i =
    let size = length-map fronts (λ (f : FrontView). f.intake.number) in
    let count = i.count in
    let all : numbers_of fronts ≡ range_with_len 0 n =
    same_lists (numbers_of fronts) (range_with_len 0 n) (size ∙ count ∙ sym (length-range_with_len 0 n)) (λ k d below.
    let inside : k < length fronts = omega arith in
    let small : k < n = omega arith in
    let (x, at) = slice_get_is fronts k inside in
    let z : 0 + k ≡ k = omega arith in
    get_or-map (λ (f : FrontView). f.intake.number) fronts k x d inside ∙ ap (λ (f : FrontView). f.intake.number) (get_or_from_slice_get fronts k x x at)
    ∙ (let f = i.each k x at in f.number) ∙ sym (get_or-range_with_len 0 n k d small ∙ z)) in
    all ∙ ap (range_with_len 0) (sym (lanes_of_new s fronts n places now i))
