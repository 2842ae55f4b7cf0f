use Rattle.ct_step.proofs.NamedObjects.{replied_objects_change}
use Rattle.ct_step.proofs.Standing.{references_are_slices}
use Rattle.ct_step.proofs.call_laws.objects_stand_there.Goals as goal

pub returns : goal.returns
returns c = record { slices = references_are_slices; change = replied_objects_change c.edges.ensures.tell }
