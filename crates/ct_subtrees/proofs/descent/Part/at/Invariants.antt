use Rattle.std.proofs.Common.{◌≡◌, ◌<◌, ◌≤◌}
use Rattle.ct_subtrees.specs.Walk.{part_at}
use Rattle.ct_subtrees.proofs.descent.Part.at.Given as goal

abbrev pub invariant-loop : goal.invariant-loop
invariant-loop l = record {
  some : l.part.place.start < l.part.place.end;
  inside : l.part.place.end ≤ l.part.place.size;
  part : l.part ≡ part_at l.counter l.fn.self;
}
