use Rattle.std.proofs.Common.{ap, ◌∙◌}
use Rattle.ct_house.specs.Publications.{series_of}
use Rattle.ct_house.proofs.Copies.{turns}
use Rattle.ct_house.proofs.shelf.turn.Goals as goal

pub publish_as-requires : goal.publish_as-requires
publish_as-requires g c next is = turns _ _ c.args.writer.desk.shown.value next (ap series_of is ∙ c.requires)
