use Rattle.std.proofs.Common.{◌≡◌, ◌++◌, take}
use Rattle.shared_list.specs.Flat.{concatenated}
use Rattle.shared_list.proofs.chunked.Chunked.share_into.Given as goal

abbrev pub invariant-loop-chunk : goal.invariant-loop-chunk
invariant-loop-chunk g l = l.into.items ≡ l.initial.into.items ++ concatenated (take l.chunk-index l.self-inside.full)
