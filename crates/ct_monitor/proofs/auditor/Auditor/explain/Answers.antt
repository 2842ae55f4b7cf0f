use Rattle.std.proofs.Common.{Vec, Global, ℕ, List, map}
use Rattle.ct_monitor.proofs.Auditing.{not_refused}
use Rattle.ct_monitor.proofs.auditor.Auditor.explain.Goals as goal

abbrev bytes : Vec ℕ Global → List ℕ
bytes l = l.items

pub returns-clause-accepted : goal.returns-clause-accepted
returns-clause-accepted g c head h a =
    not_refused g.H.NodeHash.digest (map bytes c.args.leaves.now) c.args.leaf.now c.args.index c.args.path.now c.explain_inclusion.result
    c.explain_inclusion.ensures.explained
    (rw (h.0, h.1) at a)
