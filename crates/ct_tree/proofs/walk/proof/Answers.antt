use Rattle.std.proofs.Common.{◌≡◌, ℕ, List, [], ◌+◌, ◌-◌, ◌/◌, ◌%◌, ◌++◌, ◌∷◌, length, take, true, inl, arith, sym, ◌∙◌, ap}
use Rattle.std.proofs.lemmas.List.{length-take-le, append-nil}
use Rattle.ct_tree.proofs.Path.{path-small}
use Rattle.ct_tree.proofs.WalkLength.{count_taken, count_passed, count_ended, count_halved, count_known, count_node}
use Rattle.ct_tree.proofs.Raised.{raised-zero, length-raised, edge_up, inside_up, sibling_is, joined_on, path-raised_lone}
use Rattle.ct_tree.proofs.ProofWalk.{halve_same, begin_known, begin_node}
use Rattle.ct_tree.proofs.Stored.{next_end}
use Rattle.ct_tree.proofs.WalkReads.{over_zero, up_at, known_above, known_up, last_read, left_read, beside_read_known, begin_read, last_leaf}
use Rattle.ct_tree.specs.Tree.{path, proof, subproof}
use Rattle.ct_tree.specs.Lengths.{subproof_length}
use Rattle.ct_tree.specs.Levels.{beside, raised}
use Rattle.ct_tree.proofs.walk.proof.Goals as goal
use Rattle.ct_tree.proofs.walk.proof.Goals.{then-node-gt0+in_ok-push, else-node-gt0, in-Some+in_ok-push-in-Some, in-None}

pub halve-init : goal.halve-init
halve-init g c =
    let H = g.H.NodeHash.digest in
    let m : c.args.m ≡ c.args.m - 1 + 1 = omega arith in
    let n : c.args.n ≡ c.args.n - 1 + 1 = omega arith in
    record {
      same = λ D f. ap (λ (u : ℕ). subproof H u (take c.args.n D) true) m ∙ ap (λ (q : List (List ℕ)). subproof H (c.args.m - 1 + 1) q true) (sym (raised-zero H (take c.args.n D)));
      count = ap (λ (u : ℕ). subproof_length u c.args.n true) m ∙ ap (λ (u : ℕ). subproof_length (c.args.m - 1 + 1) u true) n;
      nodes = λ D f. ap length (raised-zero H (take c.args.n D)) ∙ length-take-le c.args.n D f ∙ omega arith;
      edge = λ D s f. last_leaf H c.args.n D c.leaf_at-edge.result (omega arith)
          (c.leaf_at-edge.ensures D (s 0 (c.args.n - 1) (inl (last_read c.args.n (omega arith)))));
      at = over_zero (c.args.n - 1);
      over = over_zero (c.args.m - 1);
      ends = omega arith;
      inside = omega arith;
      low = omega arith;
      order = omega arith;
    }

pub halve-preserved : goal.halve-preserved
halve-preserved g c =
    let H = g.H.NodeHash.digest in
    let old = c.halve.invariant in
    record {
      same = λ D f. (old.same D f) ∙ halve_same H c.halve.level c.halve.last c.halve.node c.args.n D (old.nodes D f) c.halve-test.true old.order;
      count = old.count ∙ count_halved c.halve.node c.halve.last c.halve-test.true old.order;
      nodes = λ D f. length-raised H c.halve.level c.halve.last (take c.args.n D) (old.nodes D f);
      edge = λ D s f. edge_up H c.halve.level c.halve.last c.args.n D c.halve.edge c.edge_above-edge.result (old.nodes D f) (old.edge D s f)
          (λ o. c.edge_above-edge.ensures.joined o D (s c.halve.level (c.halve.last - 1) (inl (left_read c.args.n c.halve.level c.halve.last old.at o))))
          c.edge_above-edge.ensures.lone;
      at = up_at c.halve.last (c.args.n - 1) c.halve.level old.at;
      over = up_at c.halve.node (c.args.m - 1) c.halve.level old.over;
      ends = next_end c.halve.level c.halve.node c.args.m old.ends c.halve-test.true;
      inside = inside_up c.halve.last c.args.n c.halve.level old.inside;
      low = omega (arith, old.low, old.order);
      order = omega (arith, old.order, c.halve-test.true);
    }

pub climb-init : goal.climb-init
climb-init g c =
    let H = g.H.NodeHash.digest in
    let old = c.halve.invariant in
    let R = λ (D : List (List ℕ)). raised H c.halve.level (take c.args.n D) in
    let even : c.halve.node % 2 ≡ 0 = omega (arith, c.halve-test.false) in
    let known = known_above c.args.m c.halve.node c.halve.level (sym old.ends) even old.over in
    record {
      same = λ D s f. elim c.if-node-gt0.branch [
        | then-node-gt0+in_ok-push w ↦
            joined_on [] c.if-node-gt0.proof.items (path H c.halve.node (R D)) (proof H c.args.m (take c.args.n D))
            (subproof H (c.halve.node + 1) (R D) true) w.node_at.result
            (old.same D f)
            (begin_node H c.halve.level c.halve.last c.halve.node c.args.n D w.node_at.result (old.nodes D f) even w.if-node-gt0.true old.order
            (w.node_at.ensures D (s c.halve.level c.halve.node (begin_read c.args.m c.args.n c.halve.level c.halve.node c.halve.last known old.over old.at old.order))))
            (ap (λ v. v.items) w.proof-is ∙ w.in_ok-push.ensures.items ∙ ap (λ (q : List (List ℕ)). q ++ w.node_at.result ∷ []) c.in_ok-proof.ensures.items)
        | else-node-gt0 w ↦
            (old.same D f)
            ∙ begin_known H c.halve.level c.halve.last c.halve.node c.args.n D (old.nodes D f) (omega (arith, w.if-node-gt0.false))
            ∙ sym (ap (λ (q : List (List ℕ)). q ++ path H c.halve.node (R D)) (ap (λ v. v.items) w.proof-is ∙ c.in_ok-proof.ensures.items))
      ];
      count = elim c.if-node-gt0.branch [
        | then-node-gt0+in_ok-push w ↦
            old.count ∙ count_node c.if-node-gt0.proof.items w.node_at.result c.halve.node c.halve.last even w.if-node-gt0.true old.order
            (ap (λ v. v.items) w.proof-is ∙ w.in_ok-push.ensures.items ∙ ap (λ (q : List (List ℕ)). q ++ w.node_at.result ∷ []) c.in_ok-proof.ensures.items)
        | else-node-gt0 w ↦
            old.count ∙ count_known c.if-node-gt0.proof.items c.halve.node c.halve.last (omega (arith, w.if-node-gt0.false))
            (ap (λ v. v.items) w.proof-is ∙ c.in_ok-proof.ensures.items)
      ];
      nodes = old.nodes;
      edge = old.edge;
      at = old.at;
      over = old.over;
      known = known;
      inside = old.inside;
      low = old.low;
      order = omega (arith, old.order);
    }

pub returns : goal.returns
returns g c =
    let H = g.H.NodeHash.digest in
    let i = c.climb.invariant in
    record {
      hashes = λ D s f. sym ((i.same D s f) ∙ ap (λ (q : List (List ℕ)). c.climb.proof.items ++ q)
          (path-small H c.climb.node (raised H c.climb.level (take c.args.n D)) (omega (arith, i.nodes D f, c.climb-test.false)))
          ∙ append-nil c.climb.proof.items);
      length = sym (i.count ∙ count_ended c.climb.proof.items c.climb.node c.climb.last (omega (arith, c.climb-test.false)));
    }

pub climb-preserved : goal.climb-preserved
climb-preserved g c =
    let H = g.H.NodeHash.digest in
    let old = c.climb.invariant in
    let R = λ (D : List (List ℕ)). raised H c.climb.level (take c.args.n D) in
    let rest = λ (D : List (List ℕ)). path H (c.climb.node / 2) (raised H (c.climb.level + 1) (take c.args.n D)) in
    record {
      same = λ D s f. elim c.match-sibling.branch [
        | in-Some+in_ok-push-in-Some w ↦
            joined_on c.climb.proof.items c.match-sibling.proof.items (rest D) (proof H c.args.m (take c.args.n D)) (path H c.climb.node (R D)) w.in-Some.sibling
            (old.same D s f)
            (sibling_is H c.climb.level c.climb.last c.climb.node c.args.n D c.climb.edge w.in-Some.sibling (old.nodes D f) (old.edge D s f)
            w.in-Some.ensures.0 (w.in-Some.ensures.1 D
            (λ b. s c.climb.level (beside c.climb.node) (beside_read_known c.args.m c.args.n c.climb.level c.climb.node c.climb.last old.known old.over old.at b))))
            (ap (λ v. v.items) w.proof-is ∙ w.in_ok-push-in-Some.ensures.items)
        | in-None w ↦
            let o = w.in-None.ensures in
            (old.same D s f)
            ∙ ap (λ (q : List (List ℕ)). c.climb.proof.items ++ q)
            (path-raised_lone H c.climb.level c.climb.last c.climb.node c.args.n D (old.nodes D f) o.0 o.1 (omega (arith, c.climb-test.true)))
            ∙ sym (ap (λ v. v.items ++ rest D) w.proof-is)
      ];
      count = elim c.match-sibling.branch [
        | in-Some+in_ok-push-in-Some w ↦
            count_taken c.climb.proof.items c.match-sibling.proof.items w.in-Some.sibling (subproof_length c.args.m c.args.n true) c.climb.node c.climb.last old.count
            w.in-Some.ensures.0 (ap (λ v. v.items) w.proof-is ∙ w.in_ok-push-in-Some.ensures.items)
        | in-None w ↦
            count_passed c.climb.proof.items c.match-sibling.proof.items (subproof_length c.args.m c.args.n true) c.climb.node c.climb.last old.count
            w.in-None.ensures.0 w.in-None.ensures.1 (omega (arith, c.climb-test.true)) (ap (λ v. v.items) w.proof-is)
      ];
      nodes = λ D f. length-raised H c.climb.level c.climb.last (take c.args.n D) (old.nodes D f);
      edge = λ D s f. edge_up H c.climb.level c.climb.last c.args.n D c.climb.edge c.edge_above-edge-in-climb.result (old.nodes D f) (old.edge D s f)
          (λ o. c.edge_above-edge-in-climb.ensures.joined o D (s c.climb.level (c.climb.last - 1) (inl (left_read c.args.n c.climb.level c.climb.last old.at o))))
          c.edge_above-edge-in-climb.ensures.lone;
      at = up_at c.climb.last (c.args.n - 1) c.climb.level old.at;
      over = up_at c.climb.node (c.args.m - 1) c.climb.level old.over;
      known = known_up c.args.m c.climb.level old.known;
      inside = inside_up c.climb.last c.args.n c.climb.level old.inside;
      low = omega (arith, old.low);
      order = omega (arith, old.order);
    }
