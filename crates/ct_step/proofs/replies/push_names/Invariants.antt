use Rattle.std.proofs.Common.{◌≡◌, ◌++◌, map, take}
use Rattle.std.specs.List.{flat_map}
use Rattle.ct_codec.specs.Bytes.{vec}
use Rattle.ct_step.proofs.replies.push_names.Given as goal

abbrev pub invariant-loop-name : goal.invariant-loop-name
invariant-loop-name l = l.text.items ≡ l.fn.text.items ++ flat_map (vec 8) (map (λ n. n.items) (take l.name-index l.names))
