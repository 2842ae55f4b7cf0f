use Rattle.std.proofs.Common.{refl}
use Rattle.ct_house.proofs.Copies.{turns}
use Rattle.ct_house.proofs.viewer.Viewer.ask.Goals as goal

pub enter_as-requires : goal.enter_as-requires
enter_as-requires c x = turns _ _ x x refl
