use Rattle.std.proofs.Common.{subst}
use Rattle.ct_monitor.specs.WatcherState.{WatcherState}
use Rattle.ct_monitor.specs.Verdicts.{KnownSay}
use Rattle.ct_monitor.proofs.Steps.{known_of_state}
use Rattle.ct_monitor.proofs.watcher.Watcher.take_head.Goals as goal

pub returns-in-Some-clause-stands : goal.returns-in-Some-clause-stands
returns-in-Some-clause-stands g c w k =
    let says = subst (λ (s : WatcherState). KnownSay s.accepted s.waiting s.newest c.args.head c.in-Some.verdict) c.self.view_is c.in-Some.ensures in
    c.keep.ensures w k (known_of_state g.H.NodeHash.digest c.args.self.now w c.args.head c.in-Some.verdict k says)
