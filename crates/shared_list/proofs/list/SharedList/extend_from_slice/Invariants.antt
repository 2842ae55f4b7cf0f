use Rattle.std.proofs.Common.{◌≡◌, ◌++◌, take}
use Rattle.shared_list.proofs.list.SharedList.extend_from_slice.Given as goal

abbrev pub invariant-loop-value : goal.invariant-loop-value
invariant-loop-value g l = l.self ≡ l.initial.self ++ take l.value-index l.values
