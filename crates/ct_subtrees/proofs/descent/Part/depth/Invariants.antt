use Rattle.std.proofs.Common.{◌≡◌, ◌+◌, ◌-◌, ◌^◌, ◌<◌, ◌≤◌, ℕ, true}
use Rattle.ct_subtrees.specs.Walk.{is_split, part_at}
use Rattle.ct_subtrees.proofs.descent.Part.depth.Given as goal

abbrev pub invariant-loop-part : goal.invariant-loop-part
invariant-loop-part l = record {
  some : l.part.place.start < l.part.place.end;
  inside : l.part.place.end ≤ l.part.place.size;
  smaller : l.depth + l.part.place.size ≤ l.fn.self.place.size;
  few : l.depth ≤ 64;
  halved : l.part.place.size ≤ 2 ^ (64 - l.depth);
  part : l.part ≡ part_at l.depth l.fn.self;
  split : (d : ℕ) → d < l.depth → is_split (part_at d l.fn.self) ≡ true;
}

abbrev pub decreases-loop-part : goal.decreases-loop-part
decreases-loop-part l = l.part.place.size
