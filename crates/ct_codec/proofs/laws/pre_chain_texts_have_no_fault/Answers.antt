use Rattle.ct_codec.proofs.Verdict.{pre_chain_texts_have_no_fault}
use Rattle.ct_codec.proofs.laws.pre_chain_texts_have_no_fault.Goals as goal

pub returns : goal.returns
returns c = pre_chain_texts_have_no_fault
