use Rattle.std.proofs.Common.{◌-◌, ◌<◌, length, arith, subst}
use Rattle.ct_subtrees.specs.Verdict.{IsInSubtree, EvaluatesTo, RefusesEvaluation}
use Rattle.ct_subtrees.specs.Walk.{HasOtherLength}
use Rattle.ct_subtrees.proofs.Steps.{passed_on, refuses_path}
use Rattle.ct_subtrees.proofs.Special.{leaf_length, leaf_rebuilt}
use Rattle.ct_subtrees.proofs.inclusion.evaluate_subtree_inclusion.Goals as goal

pub returns-in_err-rebuilt : goal.returns-in_err-rebuilt
returns-in_err-rebuilt g c =
    let within : IsInSubtree c.args.index c.args.start c.args.end = (c.is_subtree.ensures.0 c.if-not-is_subtree.false, omega arith, omega arith) in
    let inside : c.args.index - c.args.start < c.args.end - c.args.start = omega arith in
    passed_on (EvaluatesTo g.H.NodeHash.digest c.args.index c.args.start c.args.end c.args.leaf_hash.now c.args.path.now)
    (RefusesEvaluation c.args.index c.args.start c.args.end c.args.path.now) c.in_err-rebuilt.field-0.0 c.from_residual.result c.from_residual.ensures.1
    (refuses_path c.args.index c.args.start c.args.end c.args.path.now c.in_err-rebuilt.field-0.0 within
    (subst (λ v. HasOtherLength v (length c.args.path.now) c.in_err-rebuilt.field-0.0)
    (leaf_length (c.args.end - c.args.start) (c.args.index - c.args.start) inside) c.in_err-rebuilt.ensures))

pub returns : goal.returns
returns g c =
    let inside : c.args.index - c.args.start < c.args.end - c.args.start = omega arith in (
      (c.is_subtree.ensures.0 c.if-not-is_subtree.false, omega arith, omega arith),
      leaf_rebuilt g.H.NodeHash.digest (c.args.index - c.args.start) (c.args.end - c.args.start) c.args.leaf_hash.now c.in_ok-rebuilt.field-0.subtree
          c.in_ok-rebuilt.field-0.root c.args.path.now inside c.in_ok-rebuilt.ensures,
    )
