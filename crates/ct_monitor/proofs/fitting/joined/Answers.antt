use Rattle.std.proofs.Common.{[], arith, sym}
use Rattle.ct_tree.proofs.Peaks.{root_of_peaks-before, root_of_peaks-last}
use Rattle.ct_monitor.proofs.fitting.joined.Goals as goal

pub loop-i-init : goal.loop-i-init
loop-i-init g c = sym (root_of_peaks-last g.H.NodeHash.digest c.args.subtrees.now [] c.requires)

pub loop-i-preserved : goal.loop-i-preserved
loop-i-preserved g c =
    root_of_peaks-before g.H.NodeHash.digest c.args.subtrees.now c.loop-i.i c.loop-i.root c.node_hash-root.result (omega arith) (omega arith)
    c.loop-i.invariant c.node_hash-root.ensures
