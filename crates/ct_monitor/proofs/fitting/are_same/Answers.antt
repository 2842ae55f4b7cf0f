use Rattle.std.proofs.Common.{◌≡◌}
use Rattle.std.proofs.lemmas.Slice.Eq.{bytes_eq-Decides, slice_eq-Decides}
use Rattle.ct_monitor.proofs.NoTexts.{decided}
use Rattle.ct_monitor.proofs.fitting.are_same.Goals as goal

pub returns : goal.returns
returns c =
    decided c.eq.result (c.args.one.now ≡ c.args.two.now) (slice_eq-Decides bytes_eq-Decides c.args.one.now c.args.two.now c.eq.result c.eq.ensures)
