use Rattle.std.proofs.Common.{refl, map}
use Rattle.sha2.specs.Sha256.{sha256}
use Rattle.ct_step.specs.Resumed.{object_parts}
use Rattle.ct_step.specs.StepAnswers.{TellsObjects}
use Rattle.ct_step.specs.StepWords.{steps, references_of}
use Rattle.ct_step.proofs.StepKept.{by_reply}
use Rattle.ct_step.proofs.stepping.step_made.Goals as goal

pub returns : goal.returns
returns c =
    let same = rw c.deref-2.ensures.value at c.in_ok-standing.ensures in
    let objects = map object_parts c.in_ok-objects.objects.items in
    let found = rw c.deref.ensures.value at c.in_ok-objects.ensures.found in
    let line = rw (c.deref-4.ensures.value, same) at c.stepped_line.ensures in
    by_reply c.stepped_line.result c.args.origin.now (steps c.args.step.now c.args.places.now (references_of sha256 objects))
    (TellsObjects c.args.step.now c.args.places.now) (objects, refl, found) line
