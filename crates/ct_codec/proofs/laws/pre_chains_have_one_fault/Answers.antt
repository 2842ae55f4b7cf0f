use Rattle.ct_codec.proofs.Verdict.{pre_chains_have_one_fault}
use Rattle.ct_codec.proofs.laws.pre_chains_have_one_fault.Goals as goal

pub returns : goal.returns
returns c = pre_chains_have_one_fault
