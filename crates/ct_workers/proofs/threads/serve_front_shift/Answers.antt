use Rattle.ct_workers.specs.FrontWork.{FrontDoes, FrontGoesOn}
use Rattle.ct_workers.proofs.FrontLemmas.{front_goes_on_nothing, front_goes_on_both}
use Rattle.ct_workers.proofs.TurnLemmas.{all_served, all_went_on}
use Rattle.ct_workers.proofs.ScriptPartyLemmas.{on_ok_is}
use Rattle.ct_workers.proofs.threads.serve_front_shift.Goals as goal

pub returns-in-Ok : goal.returns-in-Ok
returns-in-Ok g c =
    let all = on_ok_is c.in-Ok.is c.serve_all.ensures.all in
    record {
      serves = all_served FrontDoes FrontGoesOn _ _ _ _ _ all;
      goes_on = all_went_on FrontDoes FrontGoesOn front_goes_on_nothing front_goes_on_both _ _ _ _ _ all;
    }
