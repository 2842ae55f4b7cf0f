use Rattle.std.proofs.Common.{refl, subst}
use Rattle.std.specs.Prelude.{◌≢◌}
use Rattle.ct_checkpoint.proofs.Lines.{undecoded}
use Rattle.ct_checkpoint.specs.declared.fault.CheckpointFault.{CheckpointFault}
use Rattle.ct_checkpoint.specs.declared.fault.CheckpointFault.TheVariants.{Memory}
use Rattle.ct_checkpoint.proofs.checkpoint.root_of.Goals as goal

pub returns-in-Err-clause-refused : goal.returns-in-Err-clause-refused
returns-in-Err-clause-refused c = λ not root is e.
    undecoded c.args.text.now root c.in-Err.error (subst (λ (f : CheckpointFault). f ≢ Memory) c.fault_of.ensures not) c.in-Err.ensures.err
    ((c.in-Err.ensures.strict (refl, refl) root is.1).1 e)
