-- The parties of a new house.
use Rattle.std.proofs.Common.{◌≡◌, ◌<◌, ℕ, length, sym, subst, ◌∙◌}
use Rattle.std.proofs.lemmas.List.{length-map}
use Rattle.ct_workers.specs.Fronts.{AreFrontsOf}
use Rattle.ct_workers.proofs.HouseLemmas.{new_of_house, new_in_order}
use Rattle.ct_workers.specs.declared.party.FrontParty.{FrontParty}
use Rattle.ct_workers.specs.Parties.{Parties, fronts_of}
use Rattle.ct_workers.specs.Output.{AreNewParties}

-- the fronts of a new house are all its fronts
pub new_fronts : (n places open_at : ℕ) (start : Parties) → AreNewParties n places open_at start → 0 < n → AreFrontsOf start.house (fronts_of start.fronts)
new_fronts n places open_at start i some = record {
  of_house = new_of_house start.house (fronts_of start.fronts) n places open_at i.fresh;
  in_order = new_in_order start.house (fronts_of start.fronts) n places open_at i.fresh;
  some = subst (λ (k : ℕ). 0 < k) (sym i.fresh.count) some;
}

-- the number of fronts of a new house
pub new_count : (n places open_at : ℕ) (start : Parties) → AreNewParties n places open_at start → n ≡ length start.fronts
new_count n places open_at start i = sym i.fresh.count ∙ length-map start.fronts (λ (p : FrontParty). p.front)
