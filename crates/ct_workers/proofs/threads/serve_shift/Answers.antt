use Rattle.std.proofs.Common.{subst}
use Rattle.std.proofs.lemmas.Result.{IfOk-at_ok}
use Rattle.std.specs.Prelude.{OnOk}
use Rattle.ct_workers.specs.OperatorWork.{GoesOn, OperatorServes}
use Rattle.ct_workers.proofs.ScriptPartyLemmas.{does_shift}
use Rattle.ct_workers.proofs.threads.serve_shift.Goals as goal

pub returns-in-Ok-parties-clause-does : goal.returns-in-Ok-parties-clause-does
returns-in-Ok-parties-clause-does g c =
    let house = c.args.house in
    let done = c.serve_beside-done.result in
    does_shift house.sequencer done.sequencer house.told.items done.told.items house.parties.items c.args.work c.in-Ok.shifts.items
    c.in-Ok-parties.parties c.in-Ok.ensures.parties c.in-Ok.ensures.tasks (IfOk-at_ok _ c.in-Ok-parties.is c.serve_beside-done.ensures.fronts)
    (subst (λ (r : _). OnOk r (OperatorServes house.sequencer c.args.work.operator.items house.told.items done.sequencer done.told.items))
    c.in-Ok-parties.is c.serve_beside-done.ensures.serves)
    (subst (λ (r : _). OnOk r (GoesOn house.sequencer done.sequencer)) c.in-Ok-parties.is c.serve_beside-done.ensures.goes_on)
