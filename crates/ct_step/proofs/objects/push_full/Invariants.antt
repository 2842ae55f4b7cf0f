use Rattle.std.proofs.Common.{◌≡◌, ◌++◌, ◌+◌, ◌*◌, ◌≤◌, ℕ, List, length, map}
use Rattle.ct_data_tiles.specs.Rows.{data_tiles_from}
use Rattle.ct_data_tiles.proofs.Rows.{text_in}
use Rattle.ct_step.specs.Bundle.{bundle_text}
use Rattle.ct_step.specs.Objects.{each_from, entry_object}
use Rattle.ct_step.proofs.objects.push_full.Given as goal

abbrev pub invariant-loop-content : goal.invariant-loop-content
invariant-loop-content l = record {
  index : l.index ≡ l.first + l.content-index;
  written : (M : List (List ℕ)) → map text_in l.tiles ≡ data_tiles_from l.first (length l.tiles) M → 256 * (l.first + length l.tiles) ≤ length M
      → l.bundle.items ≡ l.initial.bundle.items ++ bundle_text (each_from (entry_object M) l.first l.content-index);
}
