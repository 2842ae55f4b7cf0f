use Rattle.std.proofs.Common.{◌∙◌, sym}
use Rattle.ct_monitor.proofs.Steps.{again_keeps, known_keeps}
use Rattle.ct_monitor.proofs.watcher.Watcher.keep.Goals as goal

pub returns-then-again : goal.returns-then-again
returns-then-again g c w k s =
    again_keeps g.H.NodeHash.digest c.args.self.now c.remember.new.self c.args.head.now c.args.verdict.now (sym c.is_again-again.ensures ∙ c.if-again.true)
    c.remember.ensures w k

pub returns-else-again : goal.returns-else-again
returns-else-again g c w k s =
    known_keeps g.H.NodeHash.digest c.args.self.now c.args.head.now c.args.verdict.now (sym c.is_again-again.ensures ∙ c.if-again.false) w k s
