use Rattle.std.proofs.Common.{◌∙◌, ◌++◌, ℕ, List, [], ap, sym}
use Rattle.ct_tiles.specs.Tiles.{lone_root}
use Rattle.ct_step.proofs.EdgesTell.{carried-none}
use Rattle.ct_step.proofs.Widths.{carried-step}
use Rattle.ct_step.proofs.believed.root_of_tiles.Goals as goal

pub loop-tile-init : goal.loop-tile-init
loop-tile-init g c = c.new-carried.ensures.items ∙ sym (carried-none g.H.NodeHash.digest [])

pub loop-tile-preserved : goal.loop-tile-preserved
loop-tile-preserved g c =
    let H = g.H.NodeHash.digest in
    let l = c.loop-tile in
    carried-step H l.tile-index c.args.tiles.now c.tile-item.result l.carried.items c.in_ok-hashes.hashes.items c.in_ok-carried.carried.items
    c.loop-tile-test.true c.tile-item.is
    (c.in_ok-hashes.ensures ∙ ap (λ (x : List (List ℕ)). x ++ c.deref-in-loop-tile.result.now) c.deref.ensures.value
    ∙ ap (λ (x : List (List ℕ)). c.tile-item.result.items ++ x) c.deref-in-loop-tile.ensures.value)
    (c.in_ok-carried.ensures ∙ ap (lone_root H) c.deref-in-loop-tile-2.ensures.value)
    l.invariant
