use Rattle.ct_core.proofs.published.Published.answer.Goals as goal

pub returns-in-ProofByHash-clause-answer : goal.returns-in-ProofByHash-clause-answer
returns-in-ProofByHash-clause-answer c = rw c.in-ProofByHash.is c.proof_by_hash.ensures.answer
