use Rattle.std.proofs.Common.{◌≡◌, ◌++◌, ◌+◌, map, length}
use Rattle.ct_names.specs.Names.{named_all}
use Rattle.ct_names.specs.FoundBytes.{found_from}
use Rattle.ct_names.proofs.found_bytes.text_of.Given as goal

abbrev pub invariant-rest : goal.invariant-rest
invariant-rest l =
    record {
      text : l.text.items ++ found_from l.position (named_all l.names) (map (λ w. w.now) l.rest) ≡ found_from 0 (named_all l.names) (map (λ w. w.now) l.watched);
      counted : l.position + length l.rest ≡ length l.watched;
    }

abbrev pub decreases-rest : goal.decreases-rest
decreases-rest l = length l.rest
