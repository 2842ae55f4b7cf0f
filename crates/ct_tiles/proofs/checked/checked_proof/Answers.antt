use Rattle.std.proofs.Common.{◌≡◌, ◌∙◌, ap, arith, length, true}
use Rattle.ct_tree.specs.Lengths.{subproof_length}
use Rattle.ct_tiles.proofs.NeverRefused.{proof_never_of_tiles, has_a_hash}
use Rattle.ct_tiles.proofs.checked.checked_proof.Goals as goal

pub returns-in-Err-clause-never_refused : goal.returns-in-Err-clause-never_refused
returns-in-Err-clause-never_refused g c = λ D tiles inside z below f s.
    absurd (proof_never_of_tiles g.H.NodeHash.digest (g.T.TileSource.given c.args.tiles.now) D c.args.m c.args.n c.deref.result.now c.args.first_root.now
    c.args.second_root.now c.in-Err.fault (λ E t i. c.deref.ensures.value ∙ c.in_ok-proof.ensures.all E t i) c.in-Err.ensures tiles inside z below f s)

pub returns-in-Err-clause-refused : goal.returns-in-Err-clause-refused
returns-in-Err-clause-refused g c =
    let same : length c.deref.result.now ≡ subproof_length c.args.m c.args.n true = ap length c.deref.ensures.value ∙ c.in_ok-proof.ensures.length in (
      c.deref.result.now,
      (λ z below. (omega (arith, same, has_a_hash c.args.m c.args.n z below), same, λ D t i. c.deref.ensures.value ∙ c.in_ok-proof.ensures.all D t i)),
      c.in-Err.ensures,
    )
