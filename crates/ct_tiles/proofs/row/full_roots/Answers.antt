use Rattle.std.proofs.Common.{◌≡◌, ◌∙◌, ◌+◌, ◌-◌, ◌*◌, take, drop, arith, refl, ap}
use Rattle.ct_tree.specs.Tree.{mth}
use Rattle.ct_tiles.proofs.Steps.{roots_none, roots_more}
use Rattle.ct_tiles.proofs.row.full_roots.Goals as goal

pub loop-i-init : goal.loop-i-init
loop-i-init g c = roots_none g.H.NodeHash.digest c.args.row.now c.in_ok-roots.roots.items c.in_ok-roots.ensures.items

pub loop-i-preserved : goal.loop-i-preserved
loop-i-preserved g c =
    let H = g.H.NodeHash.digest in
    let row = c.args.row.now in
    let i = c.loop-i.i in
    let e : 256 * i + 256 - 256 * i ≡ 256 = omega arith in
    roots_more H row c.loop-i.roots.items c.push.new.self.items (take 256 (drop (256 * i) row)) c.root.result i c.loop-i.invariant refl
    (c.root.ensures ∙ ap (λ n. mth H (take n (drop (256 * i) row))) e) c.in_ok-push.ensures.items
