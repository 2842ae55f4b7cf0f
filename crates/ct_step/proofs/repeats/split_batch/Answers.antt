use Rattle.std.proofs.Common.{map}
use Rattle.std.proofs.lemmas.List.{map_push}
use Rattle.ct_step.specs.StepBytes.{entry_parts}
use Rattle.ct_step.proofs.repeats.split_batch.Goals as goal

pub loop-entry-preserved : goal.loop-entry-preserved
loop-entry-preserved c =
    let l = c.loop-entry in
    let e = c.in-Some.entry in
    rw (map_push entry_parts l.yielded e) (c.in_ok-take_entry.ensures (map entry_parts l.yielded) l.invariant)
