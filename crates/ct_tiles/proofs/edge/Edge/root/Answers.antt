use Rattle.std.proofs.Common.{◌≡◌, ◌∙◌, ◌++◌, ℕ, length, arith, ap}
use Rattle.ct_tree.specs.Tree.{mth}
use Rattle.ct_tiles.specs.Tiles.{hashes, lone_root}
use Rattle.ct_tiles.proofs.EdgeRoot.{carried_on, root_at_top, length-lone_root, starts_alone}
use Rattle.ct_tiles.proofs.edge.Edge.root.Goals as goal

pub loop-level-init : goal.loop-level-init
loop-level-init g c =
    let H = g.H.NodeHash.digest in
    record {
      same = λ D e. starts_alone H D c.new-carried.result.items c.new-carried.ensures.items;
      few = omega (arith, ap length c.new-carried.ensures.items);
    }

pub loop-level-preserved : goal.loop-level-preserved
loop-level-preserved g c =
    let H = g.H.NodeHash.digest in
    let old = c.loop-level.invariant in
    let next : c.in_ok-carried.carried.items ≡ lone_root H (c.tile.result.now ++ c.loop-level.carried.items) =
    c.in_ok-carried.ensures ∙ ap (lone_root H) (c.deref-in-loop-level.ensures.value ∙ c.in_ok-hashes.ensures
    ∙ ap (λ x. c.tile.result.now ++ x) c.deref.ensures.value) in
    record {
      same = λ D e. carried_on H c.loop-level.level D c.args.self.now e c.loop-level-test.true c.tile.result.now c.loop-level.carried.items c.in_ok-carried.carried.items
          (old.same D e) old.few c.tile.ensures next;
      few = omega (arith, ap length next, length-lone_root H (c.tile.result.now ++ c.loop-level.carried.items));
    }

pub returns : goal.returns
returns g c = λ D e h.
    let H = g.H.NodeHash.digest in
    let last : c.loop-level.level ≡ 8 = omega (arith, c.loop-level-test.false, c.loop-level.auto.level-end) in
    c.root.ensures ∙ ap (mth H) c.deref-2.ensures.value
    ∙ root_at_top H D c.loop-level.carried.items h (c.loop-level.invariant.same D e
    ∙ ap (λ (k : ℕ). mth H (hashes H 256 k D ++ c.loop-level.carried.items)) last)
