use Rattle.house_tests.proofs.FrontLemmas.{of_new_house}
use Rattle.house_tests.proofs.sixteen_fronts.Crowd.open.Goals as goal

pub parties_of-requires : goal.parties_of-requires
parties_of-requires g c = of_new_house c.in_ok-house.house c.in_ok-house.fronts.items 16 c.places.result 0 c.in_ok-house.ensures.fresh
