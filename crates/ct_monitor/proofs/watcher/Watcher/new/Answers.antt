use Rattle.std.proofs.Common.{sym, ◌∙◌, ap, refl}
use Rattle.ct_tree.proofs.Peaks.{peaks-nil}
use Rattle.ct_monitor.proofs.watcher.Watcher.new.Goals as goal

pub returns : goal.returns
returns g c =
    let H = g.H.NodeHash.digest in
    record {
      accepted = refl;
      waiting = refl;
      newest = refl;
      sure = record { size = ap (λ p. p.0) c.from_parts.ensures; subtrees = ap (λ p. p.1) c.from_parts.ensures ∙ c.new.ensures.items ∙ sym (peaks-nil H) };
      all = record { size = ap (λ p. p.0) c.from_parts-2.ensures; subtrees = ap (λ p. p.1) c.from_parts-2.ensures ∙ c.new-2.ensures.items ∙ sym (peaks-nil H) };
    }
