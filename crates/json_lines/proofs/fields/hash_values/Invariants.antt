use Rattle.std.proofs.Common.{◌≡◌, drop}
use Rattle.json_lines.proofs.Items.{hashes_of_values, with_front}
use Rattle.json_lines.proofs.fields.hash_values.Given as goal

abbrev pub invariant-loop-value : goal.invariant-loop-value
invariant-loop-value l = with_front l.all.items (hashes_of_values (drop l.value-index l.values)) ≡ hashes_of_values l.values
