use Rattle.std.proofs.Common.{◌≡◌, ◌+◌, map, length}
use Rattle.ct_names.proofs.FoundInBytes.{GoesOn}
use Rattle.ct_names.proofs.found_in_bytes.text_of.Given as goal

abbrev pub invariant-rest : goal.invariant-rest
invariant-rest l =
    record {
      text : GoesOn l.low (map (λ w. w.now) l.watched) l.text.items l.position (map (λ w. w.now) l.rest);
      counted : l.position + length l.rest ≡ length l.watched;
    }

abbrev pub decreases-rest : goal.decreases-rest
decreases-rest l = length l.rest
