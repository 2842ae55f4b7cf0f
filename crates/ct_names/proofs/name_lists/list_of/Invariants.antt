use Rattle.std.proofs.Common.{length, map}
use Rattle.ct_names.proofs.Listing.{ReadSoFar}
use Rattle.ct_names.proofs.name_lists.list_of.Given as goal

abbrev pub invariant-names : goal.invariant-names
invariant-names l = ReadSoFar (map (λ b. b.now) l.names.items) l.bytes l.reader

abbrev pub decreases-names : goal.decreases-names
decreases-names l = length l.reader
