use Rattle.std.proofs.Common.{◌≤◌, ◌*◌, List, ℕ, [], length}
use Rattle.std.specs.Io.KnownBytes.{Consumes}
use Rattle.ct_lines.specs.Frozen.{frozen_reply}
use Rattle.ct_lines.specs.Progress.{Goes}
use Rattle.ct_lines.proofs.serving.serve_frozen.Given as goal

abbrev pub invariant-loop-turn : goal.invariant-loop-turn
invariant-loop-turn g l = record {
  within : l.count ≤ 8192 * l.turn;
  goes : (input : List ℕ) × Consumes (g.R.Read.remaining l.fn.reader) (g.R.Read.remaining l.reader) input
      × Goes (frozen_reply l.log) (g.W.Write.contents l.fn.writer) (g.W.Write.contents l.writer) l.kept.items 0 l.count [] input × (l.turn ≤ length input);
}
