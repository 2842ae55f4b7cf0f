-- The fronts of a house, in order.
use Rattle.std.specs.Prelude.{◌<◌, List, length, All}
use Rattle.std.specs.List.{AllZip}
use Rattle.ct_house.specs.House.{AreInOrder, FrontView, HouseState, IsOfHouse}
use Rattle.ct_workers.specs.FrontWork.{FrontGoesOn}

-- all fronts of the house, in order; there is at least one
pub record AreFrontsOf (s : HouseState) (fronts : List FrontView) : Type 0 where
  pub of_house : All (IsOfHouse s.house) fronts
  pub in_order : AreInOrder (length s.lanes) fronts
  pub some : 0 < length fronts

-- each front continues as the one at the same index
abbrev pub AllGoOn : List FrontView → List FrontView → Type 0
AllGoOn before after = AllZip FrontGoesOn before after
