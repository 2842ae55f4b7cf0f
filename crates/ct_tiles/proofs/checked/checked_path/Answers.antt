use Rattle.std.proofs.Common.{◌∙◌, ap, length}
use Rattle.ct_tiles.proofs.NeverRefused.{never_of_tiles}
use Rattle.ct_tiles.proofs.checked.checked_path.Goals as goal

pub returns-in-Err-clause-never_refused : goal.returns-in-Err-clause-never_refused
returns-in-Err-clause-never_refused g c = λ D tiles inside below l r.
    absurd (never_of_tiles g.H.NodeHash.digest (g.T.TileSource.given c.args.tiles.now) D c.args.leaf_hash.now c.args.m c.args.n c.deref.result.now c.args.root.now c.in-Err.fault
    (λ E t i. c.deref.ensures.value ∙ c.in_ok-path.ensures.all E t i) c.in-Err.ensures tiles inside below l r)

pub returns-in-Err-clause-refused : goal.returns-in-Err-clause-refused
returns-in-Err-clause-refused g c = (
  c.deref.result.now,
  (λ _. (ap length c.deref.ensures.value ∙ c.in_ok-path.ensures.length, λ D t i. c.deref.ensures.value ∙ c.in_ok-path.ensures.all D t i)),
  c.in-Err.ensures,
)
