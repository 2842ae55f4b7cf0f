use Rattle.std.proofs.Common.{◌≡◌, ℕ, [], ◌-◌, length, take, get_or, arith, sym, ◌∙◌, ap}
use Rattle.std.proofs.lemmas.List.{length-take-le}
use Rattle.ct_tree.proofs.Mth.{mth-nil}
use Rattle.ct_tree.proofs.Raised.{raised-zero, length-raised, mth-raised_step, mth-single, edge_up, inside_up}
use Rattle.ct_tree.proofs.WalkReads.{over_zero, up_at, last_read, left_read, last_leaf}
use Rattle.ct_tree.specs.Tree.{mth}
use Rattle.ct_tree.specs.Levels.{raised}
use Rattle.ct_tree.proofs.walk.root_at.Goals as goal

pub returns-then-n-eq0 : goal.returns-then-n-eq0
returns-then-n-eq0 g c = λ D s f.
    let H = g.H.NodeHash.digest in
    c.empty_root.ensures ∙ sym (mth-nil H) ∙ ap (λ (u : ℕ). mth H (take u D)) (sym c.if-n-eq0.true)

pub loop-last-init : goal.loop-last-init
loop-last-init g c =
    let H = g.H.NodeHash.digest in
    record {
      same = λ D s f. ap (mth H) (sym (raised-zero H (take c.args.n D)));
      nodes = λ D f. ap length (raised-zero H (take c.args.n D)) ∙ length-take-le c.args.n D f ∙ omega arith;
      edge = λ D s f. last_leaf H c.args.n D c.leaf_at-edge.result (omega arith)
          (c.leaf_at-edge.ensures D (s 0 (c.args.n - 1) (last_read c.args.n (omega arith))));
      at = over_zero (c.args.n - 1);
      inside = omega arith;
      low = omega arith;
    }

pub loop-last-preserved : goal.loop-last-preserved
loop-last-preserved g c =
    let H = g.H.NodeHash.digest in
    let old = c.loop-last.invariant in
    record {
      same = λ D s f. old.same D s f ∙ mth-raised_step H c.loop-last.level (take c.args.n D) (omega (arith, old.nodes D f));
      nodes = λ D f. length-raised H c.loop-last.level c.loop-last.last (take c.args.n D) (old.nodes D f);
      edge = λ D s f. edge_up H c.loop-last.level c.loop-last.last c.args.n D c.loop-last.edge c.edge_above-edge.result (old.nodes D f) (old.edge D s f)
          (λ o. c.edge_above-edge.ensures.joined o D (s c.loop-last.level (c.loop-last.last - 1) (left_read c.args.n c.loop-last.level c.loop-last.last old.at o)))
          c.edge_above-edge.ensures.lone;
      at = up_at c.loop-last.last (c.args.n - 1) c.loop-last.level old.at;
      inside = inside_up c.loop-last.last c.args.n c.loop-last.level old.inside;
      low = omega (arith, old.low);
    }

pub returns : goal.returns
returns g c = λ D s f.
    let H = g.H.NodeHash.digest in
    let old = c.loop-last.invariant in
    let R = raised H c.loop-last.level (take c.args.n D) in
    let z : c.loop-last.last ≡ 0 = omega (arith, c.loop-last-test.false) in
    sym (old.same D s f ∙ mth-single H R [] (omega (arith, old.nodes D f))
    ∙ ap (λ (u : ℕ). get_or R u []) (sym z) ∙ old.edge D s f)
