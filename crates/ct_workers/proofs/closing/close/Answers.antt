use Rattle.std.proofs.Common.{List, length, sym, subst}
use Rattle.std.specs.Prelude.{All, IfOk}
use Rattle.ct_house.specs.House.{AreInOrder, FrontView, IsOfHouse}
use Rattle.ct_workers.specs.ClosedLog.{Closes}
use Rattle.ct_workers.proofs.closing.close.Goals as goal

pub close_ends-requires-clause-of_house : goal.close_ends-requires-clause-of_house
close_ends-requires-clause-of_house g c κs within =
    subst (λ (l : List FrontView). All (IsOfHouse c.args.sequencer.house) l) (sym c.in-Ok.ensures) c.requires.of_house

pub close_ends-requires-clause-in_order : goal.close_ends-requires-clause-in_order
close_ends-requires-clause-in_order g c κs within = subst (AreInOrder (length c.args.sequencer.lanes)) (sym c.in-Ok.ensures) c.requires.in_order

pub returns-in-Ok-clause-closes : goal.returns-in-Ok-clause-closes
returns-in-Ok-clause-closes g c =
    subst (λ (l : List FrontView). IfOk c.close_ends.result (λ log. Closes c.args.sequencer l c.args.now log)) c.in-Ok.ensures c.close_ends.ensures.closes
