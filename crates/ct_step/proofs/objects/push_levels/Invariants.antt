use Rattle.std.proofs.Common.{◌≡◌, ◌++◌, ◌/◌, ◌^◌, ℕ, List, length}
use Rattle.ct_tiles.specs.Tiles.{rows}
use Rattle.ct_step.specs.Bundle.{bundle_text}
use Rattle.ct_step.specs.Objects.{level_objects, row_tiles}
use Rattle.ct_step.proofs.objects.push_levels.Given as goal

abbrev pub invariant-loop-level : goal.invariant-loop-level
invariant-loop-level l = record {
  known : l.known ≡ l.size / 256 ^ l.level;
  written : (H : List ℕ → List ℕ) (D B : List (List ℕ)) → l.size ≡ length D → row_tiles l.level_rows ≡ rows H 256 8 D B
      → l.bundle.items ≡ l.initial.bundle.items ++ bundle_text (level_objects H l.level D B);
}
