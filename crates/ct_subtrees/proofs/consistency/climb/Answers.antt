use Rattle.std.proofs.Common.{◌≡◌, ◌+◌, ◌-◌, ◌<◌, ℕ, true, List, [], ◌∷◌, ◌++◌, take, get_or, arith, sym, ◌∙◌, ap, subst}
use Rattle.std.proofs.lemmas.List.{append_assoc, append-nil, take_more, take_all}
use Rattle.ct_subtrees.specs.Walk.{PartYields, is_split, part_below, part_at}
use Rattle.ct_subtrees.specs.declared.descent.Part.{Part}
use Rattle.ct_subtrees.proofs.Depths.{at-root, at-next}
use Rattle.ct_subtrees.proofs.consistency.climb.Goals as goal

pub loop-element-init : goal.loop-element-init
loop-element-init g c = record {
  counted = omega arith;
  yields = λ r q y. subst (λ (p : List (List ℕ)). PartYields g.H.NodeHash.digest (part_at c.args.depth c.args.tree) r p (c.args.lowest.now, c.args.lowest.now)) (sym (append-nil q)) y;
}

pub joined-hashes-requires-clause-split : goal.joined-hashes-requires-clause-split
joined-hashes-requires-clause-split g c =
    subst (λ (t : Part). is_split t ≡ true) (sym c.at.ensures.part)
    (c.requires.split (c.loop-element.level - 1) (omega (arith, c.loop-element.invariant.counted, c.loop-element-test.true, c.if-path-depth.false)))

pub loop-element-preserved : goal.loop-element-preserved
loop-element-preserved g c =
    let l = c.loop-element in
    let some : 0 < l.level = omega (arith, l.invariant.counted, c.loop-element-test.true, c.if-path-depth.false) in
    let e : l.level - 1 + 1 ≡ l.level = omega arith in
    let above : part_at l.level c.args.tree ≡ part_below c.at.result =
    ap (λ v. part_at v c.args.tree) (sym e) ∙ sym (at-next (l.level - 1) c.args.tree) ∙ ap (λ (t : Part). part_below t) (sym c.at.ensures.part) in
    record {
      counted = omega (arith, l.invariant.counted);
      yields = λ r q y.
          let before = q ++ take l.element-index c.args.path.now in
          let element = get_or c.args.path.now l.element-index [] in
          let step = c.joined-hashes.ensures r before
          (subst (λ (t : Part). PartYields g.H.NodeHash.digest t r before (l.hashes.subtree, l.hashes.root)) above (l.invariant.yields r q y)) in
          let more : before ++ element ∷ [] ≡ q ++ take (l.element-index + 1) c.args.path.now =
          append_assoc q (take l.element-index c.args.path.now) (element ∷ [])
          ∙ ap (λ v. q ++ v) (sym (take_more c.args.path.now l.element-index [] c.loop-element-test.true)) in
          subst (λ (p : List (List ℕ)). PartYields g.H.NodeHash.digest (part_at (l.level - 1) c.args.tree) r p (c.joined-hashes.result.subtree, c.joined-hashes.result.root)) more
          (subst (λ (t : Part). PartYields g.H.NodeHash.digest t r (before ++ element ∷ []) (c.joined-hashes.result.subtree, c.joined-hashes.result.root)) c.at.ensures.part step);
    }

pub returns : goal.returns
returns g c r q y =
    let l = c.loop-element in
    let zero : l.level ≡ 0 = omega (arith, l.invariant.counted, c.loop-element-test.false, c.if-path-depth.false, c.if-path-depth-2.false) in
    let root : part_at l.level c.args.tree ≡ c.args.tree = ap (λ v. part_at v c.args.tree) zero ∙ sym (at-root c.args.tree) in
    subst (λ (p : List (List ℕ)). PartYields g.H.NodeHash.digest c.args.tree r (q ++ p) (l.hashes.subtree, l.hashes.root))
    (take_all l.element-index c.args.path.now c.loop-element-test.false)
    (subst (λ (t : Part). PartYields g.H.NodeHash.digest t r (q ++ take l.element-index c.args.path.now) (l.hashes.subtree, l.hashes.root)) root (l.invariant.yields r q y))
