use Rattle.std.proofs.Common.{◌≡◌, map, take}
use Rattle.serde_json.specs.View.{view}
use Rattle.json_lines.specs.Values.{bytes_data}
use Rattle.json_lines.proofs.value.hashes_value.Given as goal

abbrev pub invariant-loop-hash : goal.invariant-loop-hash
invariant-loop-hash l = map view l.values.items ≡ map bytes_data (take l.hash-index l.hashes)
