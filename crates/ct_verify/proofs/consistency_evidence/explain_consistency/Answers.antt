use Rattle.std.proofs.Common.{Vec, Global, ℕ, List, map}
use Rattle.ct_verify.proofs.Extending.{extension_holds}
use Rattle.ct_verify.proofs.consistency_evidence.explain_consistency.Goals as goal

abbrev bytes : Vec ℕ Global → List ℕ
bytes l = l.items

pub returns-clause-holds : goal.returns-clause-holds
returns-clause-holds g c =
    extension_holds g.H.NodeHash.digest (map bytes c.args.old.now) (map bytes c.args.new.now) c.args.path.now c.evidence_for.result c.evidence_for.ensures
