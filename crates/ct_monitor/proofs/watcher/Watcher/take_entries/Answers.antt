use Rattle.std.proofs.Common.{◌≡◌, ℕ, List, Vec, Global, map, subst, IfOk, Some, rules}
use Rattle.ct_monitor.specs.declared.newest.Newest.{Newest}
use Rattle.ct_monitor.specs.Watched.{Watched, after_verdict}
use Rattle.ct_monitor.specs.WatcherState.{Keeps}
use Rattle.ct_monitor.proofs.Steps.{entries_compared, entries_say, entries_keep}
use Rattle.ct_monitor.proofs.watcher.Watcher.take_entries.Goals as goal

abbrev bytes : Vec ℕ Global → List ℕ
bytes l = l.items

pub returns-clause-says : goal.returns-clause-says
returns-clause-says g c =
    let waits : c.args.self.now.waiting ≡ Some c.in-Some.head = search rules in
    let starts : c.args.start ≡ c.args.self.now.all.0 = search rules in
    entries_say g.H.NodeHash.digest c.args.self.now c.in-Some.head c.args.start (map bytes c.args.leaves.now) c.in_ok-all.all c.settle.result waits starts
    c.in_ok-all.ensures.keeps c.settle.ensures.says

pub returns-clause-stands : goal.returns-clause-stands
returns-clause-stands g c =
    let waits : c.args.self.now.waiting ≡ Some c.in-Some.head = search rules in
    let H = g.H.NodeHash.digest in
    let old = c.args.self.now in
    let same : c.newest-newest.result ≡ old.newest = search rules in
    let stands = subst (λ (n : Newest). IfOk c.settle.result (λ v. (w : Watched) → Keeps H (record old { all = c.in_ok-all.all }) w
    → Keeps H c.settle.new.self (after_verdict w c.in-Some.head n.waiting v))) same c.settle.ensures.stands in
    entries_keep H old c.settle.new.self c.in-Some.head (map bytes c.args.leaves.now) c.in_ok-all.all c.settle.result waits
    c.in_ok-all.ensures.keeps c.settle.ensures.says stands

pub returns-clause-compared : goal.returns-clause-compared
returns-clause-compared g c =
    let waits : c.args.self.now.waiting ≡ Some c.in-Some.head = search rules in
    entries_compared g.H.NodeHash.digest c.args.self.now c.in-Some.head (map bytes c.args.leaves.now) c.in_ok-all.all c.settle.result waits
    c.in_ok-all.ensures.stands c.settle.ensures.compared
