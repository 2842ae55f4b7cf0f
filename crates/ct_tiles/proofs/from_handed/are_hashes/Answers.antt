use Rattle.std.proofs.Common.{◌≡◌, List, ℕ, [], length}
use Rattle.std.proofs.lemmas.List.Elements.{All-nil, All-more}
use Rattle.ct_tiles.proofs.from_handed.are_hashes.Goals as goal

abbrev has_32 : List ℕ → Type 0
has_32 hash = length hash ≡ 32

pub loop-hash-init : goal.loop-hash-init
loop-hash-init c = All-nil has_32

pub loop-hash-preserved : goal.loop-hash-preserved
loop-hash-preserved c =
    All-more has_32 c.args.hashes.now c.loop-hash.hash-index [] c.loop-hash-test.true c.loop-hash.invariant c.is_hash.ensures
