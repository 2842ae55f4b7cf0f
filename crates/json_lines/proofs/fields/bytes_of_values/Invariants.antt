use Rattle.std.proofs.Common.{◌≡◌, map, drop}
use Rattle.json_lines.proofs.Items.{bytes_of_values, with_front}
use Rattle.json_lines.proofs.fields.bytes_of_values.Given as goal

abbrev pub invariant-loop-value : goal.invariant-loop-value
invariant-loop-value l = with_front (map (λ c. c.items) l.all.items) (bytes_of_values (drop l.value-index l.values)) ≡ bytes_of_values l.values
