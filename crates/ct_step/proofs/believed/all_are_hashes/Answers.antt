use Rattle.std.proofs.Common.{subst}
use Rattle.std.proofs.lemmas.List.Elements.{All-nil}
use Rattle.ct_verify.specs.Laws.{AreHashes}
use Rattle.ct_step.proofs.Widths.{hashes-step}
use Rattle.ct_step.proofs.believed.all_are_hashes.Goals as goal

pub loop-tile-init : goal.loop-tile-init
loop-tile-init c = All-nil AreHashes

pub loop-tile-preserved : goal.loop-tile-preserved
loop-tile-preserved c =
    hashes-step c.loop-tile.tile-index c.args.tiles.now c.tile-item.result c.loop-tile-test.true c.tile-item.is
    (subst AreHashes c.deref.ensures.value c.are_hashes.ensures) c.loop-tile.invariant
