use Rattle.ct_workers.specs.OperatorWork.{GoesOn, OperatorDoes}
use Rattle.ct_workers.proofs.OperatorLemmas.{goes_on_nothing, goes_on_both}
use Rattle.ct_workers.proofs.TurnLemmas.{all_served, all_went_on}
use Rattle.ct_workers.proofs.ScriptPartyLemmas.{on_ok_is}
use Rattle.ct_workers.proofs.threads.serve_in_threads.Goals as goal

pub returns-in-Ok-operated-clause-serves : goal.returns-in-Ok-operated-clause-serves
returns-in-Ok-operated-clause-serves g c = all_served OperatorDoes GoesOn _ _ _ _ _ (on_ok_is c.in-Ok-operated.is c.serve_all-operated.ensures.all)

pub returns-in-Ok-operated-clause-goes_on : goal.returns-in-Ok-operated-clause-goes_on
returns-in-Ok-operated-clause-goes_on g c =
    all_went_on OperatorDoes GoesOn goes_on_nothing goes_on_both _ _ _ _ _ (on_ok_is c.in-Ok-operated.is c.serve_all-operated.ensures.all)
