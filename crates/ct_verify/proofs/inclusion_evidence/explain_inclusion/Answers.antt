use Rattle.std.proofs.Common.{Vec, Global, ℕ, List, map}
use Rattle.ct_verify.proofs.Explaining.{holds}
use Rattle.ct_verify.proofs.inclusion_evidence.explain_inclusion.Goals as goal

abbrev bytes : Vec ℕ Global → List ℕ
bytes l = l.items

pub returns-clause-holds : goal.returns-clause-holds
returns-clause-holds g c =
    holds g.H.NodeHash.digest g.met.H.NodeHash.length_digest (map bytes c.args.leaves.now) c.args.leaf.now c.args.index c.args.path.now
    c.evidence_for.result c.evidence_for.ensures
