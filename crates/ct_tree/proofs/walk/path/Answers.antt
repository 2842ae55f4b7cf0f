use Rattle.std.proofs.Common.{ℕ, List, ◌+◌, ◌-◌, ◌/◌, ◌++◌, length, take, inl, arith, sym, ◌∙◌, ap}
use Rattle.std.proofs.lemmas.List.{length-take-le, append-nil}
use Rattle.ct_tree.proofs.Path.{path-small}
use Rattle.ct_tree.proofs.WalkLength.{count_begun, count_taken, count_passed, count_ended}
use Rattle.ct_tree.proofs.Raised.{raised-zero, length-raised, edge_up, inside_up, sibling_is, joined_on, path-raised_lone}
use Rattle.ct_tree.proofs.WalkReads.{over_zero, up_at, last_read, left_read, beside_read, last_leaf}
use Rattle.ct_tree.specs.Tree.{path}
use Rattle.ct_tree.specs.Lengths.{path_length}
use Rattle.ct_tree.specs.Levels.{beside, raised}
use Rattle.ct_tree.proofs.walk.path.Goals as goal
use Rattle.ct_tree.proofs.walk.path.Goals.{in-Some+in_ok-push-in-Some, in-None}

pub loop-last-init : goal.loop-last-init
loop-last-init g c =
    let H = g.H.NodeHash.digest in
    record {
      same = λ D s f. ap (path H c.args.m) (sym (raised-zero H (take c.args.n D))) ∙ sym (ap (λ (p : List (List ℕ)). p ++ path H c.args.m (raised H 0 (take c.args.n D))) c.in_ok-path.ensures.items);
      count = count_begun c.args.m c.args.n c.in_ok-path.path.items (omega arith) c.in_ok-path.ensures.items;
      nodes = λ D f. ap length (raised-zero H (take c.args.n D)) ∙ length-take-le c.args.n D f ∙ omega arith;
      edge = λ D s f. last_leaf H c.args.n D c.leaf_at-edge.result (omega arith)
          (c.leaf_at-edge.ensures D (s 0 (c.args.n - 1) (inl (last_read c.args.n (omega arith)))));
      at = over_zero (c.args.n - 1);
      over = over_zero c.args.m;
      inside = omega arith;
      low = omega arith;
      order = omega arith;
    }

pub returns : goal.returns
returns g c =
    let H = g.H.NodeHash.digest in
    let i = c.loop-last.invariant in
    record {
      hashes = λ D s f. sym ((i.same D s f) ∙ ap (λ (q : List (List ℕ)). c.loop-last.path.items ++ q)
          (path-small H c.loop-last.node (raised H c.loop-last.level (take c.args.n D)) (omega (arith, i.nodes D f, c.loop-last-test.false)))
          ∙ append-nil c.loop-last.path.items);
      length = sym (i.count ∙ count_ended c.loop-last.path.items c.loop-last.node c.loop-last.last (omega (arith, c.loop-last-test.false)));
    }

pub loop-last-preserved : goal.loop-last-preserved
loop-last-preserved g c =
    let H = g.H.NodeHash.digest in
    let old = c.loop-last.invariant in
    let R = λ (D : List (List ℕ)). raised H c.loop-last.level (take c.args.n D) in
    let rest = λ (D : List (List ℕ)). path H (c.loop-last.node / 2) (raised H (c.loop-last.level + 1) (take c.args.n D)) in
    record {
      same = λ D s f. elim c.match-sibling.branch [
        | in-Some+in_ok-push-in-Some w ↦
            joined_on c.loop-last.path.items c.match-sibling.path.items (rest D) (path H c.args.m (take c.args.n D)) (path H c.loop-last.node (R D)) w.in-Some.sibling
            (old.same D s f)
            (sibling_is H c.loop-last.level c.loop-last.last c.loop-last.node c.args.n D c.loop-last.edge w.in-Some.sibling (old.nodes D f) (old.edge D s f)
            w.in-Some.ensures.0 (w.in-Some.ensures.1 D
            (λ b. s c.loop-last.level (beside c.loop-last.node) (beside_read c.args.m c.args.n c.loop-last.level c.loop-last.node c.loop-last.last old.over old.at b))))
            (ap (λ v. v.items) w.path-is ∙ w.in_ok-push-in-Some.ensures.items)
        | in-None w ↦
            let o = w.in-None.ensures in
            (old.same D s f)
            ∙ ap (λ (q : List (List ℕ)). c.loop-last.path.items ++ q)
            (path-raised_lone H c.loop-last.level c.loop-last.last c.loop-last.node c.args.n D (old.nodes D f) o.0 o.1 (omega (arith, c.loop-last-test.true)))
            ∙ sym (ap (λ v. v.items ++ rest D) w.path-is)
      ];
      count = elim c.match-sibling.branch [
        | in-Some+in_ok-push-in-Some w ↦
            count_taken c.loop-last.path.items c.match-sibling.path.items w.in-Some.sibling (path_length c.args.m c.args.n) c.loop-last.node c.loop-last.last old.count
            w.in-Some.ensures.0 (ap (λ v. v.items) w.path-is ∙ w.in_ok-push-in-Some.ensures.items)
        | in-None w ↦
            count_passed c.loop-last.path.items c.match-sibling.path.items (path_length c.args.m c.args.n) c.loop-last.node c.loop-last.last old.count
            w.in-None.ensures.0 w.in-None.ensures.1 (omega (arith, c.loop-last-test.true)) (ap (λ v. v.items) w.path-is)
      ];
      nodes = λ D f. length-raised H c.loop-last.level c.loop-last.last (take c.args.n D) (old.nodes D f);
      edge = λ D s f. edge_up H c.loop-last.level c.loop-last.last c.args.n D c.loop-last.edge c.edge_above-edge.result (old.nodes D f) (old.edge D s f)
          (λ o. c.edge_above-edge.ensures.joined o D (s c.loop-last.level (c.loop-last.last - 1) (inl (left_read c.args.n c.loop-last.level c.loop-last.last old.at o))))
          c.edge_above-edge.ensures.lone;
      at = up_at c.loop-last.last (c.args.n - 1) c.loop-last.level old.at;
      over = up_at c.loop-last.node c.args.m c.loop-last.level old.over;
      inside = inside_up c.loop-last.last c.args.n c.loop-last.level old.inside;
      low = omega (arith, old.low);
      order = omega (arith, old.order);
    }
