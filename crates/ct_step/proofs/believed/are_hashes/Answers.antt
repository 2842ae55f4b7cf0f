use Rattle.std.proofs.Common.{[]}
use Rattle.std.proofs.lemmas.List.Elements.{All-nil, All-more}
use Rattle.ct_step.proofs.Roots.{has_32}
use Rattle.ct_step.proofs.believed.are_hashes.Goals as goal

pub loop-hash-init : goal.loop-hash-init
loop-hash-init c = All-nil has_32

pub loop-hash-preserved : goal.loop-hash-preserved
loop-hash-preserved c =
    All-more has_32 c.args.hashes.now c.loop-hash.hash-index [] c.loop-hash-test.true c.loop-hash.invariant c.is_hash.ensures
