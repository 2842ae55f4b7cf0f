use Rattle.std.proofs.Common.{[], inl, inr, refl, map, Some}
use Rattle.ct_step.specs.StepAnswers.{IsStepReply, TellsObjects}
use Rattle.ct_step.specs.StepBytes.{entry_parts}
use Rattle.ct_step.specs.StepRepeats.{places_of_all}
use Rattle.ct_step.specs.StepWords.{refuses}
use Rattle.ct_step.proofs.StepKept.{by_less, by_reply}
use Rattle.ct_step.proofs.stepping.taken.Goals as goal

pub returns-in-Ok : goal.returns-in-Ok
returns-in-Ok c =
    let batch = map entry_parts c.args.batch.items in
    let step = c.in-Ok.step in
    let made = rw (c.deref.ensures.value, c.in_ok-split.ensures.places) at c.step_made.ensures in
    let may = rw c.in_ok-split.ensures.firsts at c.in-Ok.ensures.may in
    let from = rw c.in_ok-split.ensures.firsts at c.in-Ok.ensures.from in
    let tiled = rw c.in_ok-split.ensures.firsts at c.in-Ok.ensures.step in
    by_less c.step_made.result c.args.origin.now (TellsObjects step (places_of_all [] batch))
    (IsStepReply c.args.line.now (Some (map (λ b. b.items) c.args.edge.now, c.args.entries.now)) batch c.args.now)
    (λ reply told. inl (step, told.0, told.1, told.2, may, from, tiled)) made

pub returns-in-Some : goal.returns-in-Some
returns-in-Some c =
    let named = rw (c.in_ok-refusal-in-Err.was, c.in-Some.is) at c.from.ensures in
    by_reply c.refused_line.result c.args.origin.now (refuses c.in-Some.refusal)
    (IsStepReply c.args.line.now (Some (map (λ b. b.items) c.args.edge.now, c.args.entries.now)) (map entry_parts c.args.batch.items) c.args.now)
    (inr (c.in-Err.fault, c.in-Some.refusal, refl, named, rw c.in_ok-split.ensures.firsts at c.in-Err.ensures.may)) c.refused_line.ensures
