use Rattle.std.proofs.Common.{◌≡◌, ◌≤◌, ◌+◌, ◌++◌, List, ℕ, length}
use Rattle.ct_lines.specs.Frozen.{frozen_reply}
use Rattle.ct_lines.specs.Progress.{StandsFor, Goes}
use Rattle.ct_lines.proofs.serving.feed.Given as goal

abbrev pub invariant-loop-rest : goal.invariant-loop-rest
invariant-loop-rest g l = record {
  room : length l.kept.items ≤ 1048578;
  done : List ℕ;
  order : l.piece ≡ done ++ l.rest;
  within : l.total ≤ l.count + length done;
  goes : (line : List ℕ) → StandsFor l.fn.kept.items line
      → Goes (frozen_reply l.log) (g.W.Write.contents l.fn.writer) (g.W.Write.contents l.writer) l.kept.items l.count l.total line done;
}

abbrev pub decreases-loop-rest : goal.decreases-loop-rest
decreases-loop-rest g l = length l.rest
