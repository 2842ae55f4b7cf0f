use Rattle.std.proofs.Common.{sym, ◌∙◌, ap, refl}
use Rattle.ct_tree.proofs.Peaks.{peaks-nil}
use Rattle.ct_monitor.proofs.keeping.Follower.new.Goals as goal

pub returns-clause-follows : goal.returns-clause-follows
returns-clause-follows g c =
    let H = g.H.NodeHash.digest in
    (record { size = ap (λ p. p.0) c.from_parts.ensures; subtrees = ap (λ p. p.1) c.from_parts.ensures ∙ c.new.ensures.items ∙ sym (peaks-nil H) }, refl)
