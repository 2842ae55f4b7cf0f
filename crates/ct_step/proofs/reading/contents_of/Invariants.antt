use Rattle.std.proofs.Common.{length, map}
use Rattle.ct_step.proofs.Contents.{ReadSoFar}
use Rattle.ct_step.proofs.reading.contents_of.Given as goal

abbrev pub invariant-contents : goal.invariant-contents
invariant-contents l = ReadSoFar (map (λ b. b.items) l.contents.items) l.bytes l.reader

abbrev pub decreases-contents : goal.decreases-contents
decreases-contents l = length l.reader
