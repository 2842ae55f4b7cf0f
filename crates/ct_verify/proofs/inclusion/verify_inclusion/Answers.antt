use Rattle.std.proofs.Common.{◌≤◌, length, arith, sym, ◌∙◌, ap, Some}
use Rattle.ct_verify.proofs.Walk.{length_at_root, length_below_root, rebuild_at_root, differ, agree}
use Rattle.ct_verify.proofs.Options.{same_some}
use Rattle.ct_verify.proofs.inclusion.verify_inclusion.Goals as goal

pub returns-then-place-eq0 : goal.returns-then-place-eq0
returns-then-place-eq0 g c =
    (omega arith, omega (arith, c.loop-sibling.invariant.shorter, length_at_root c.loop-sibling.place.node c.loop-sibling.place.last c.if-place-eq0.true))

pub returns-then-place-ne0 : goal.returns-then-place-ne0
returns-then-place-ne0 g c =
    let end : length c.args.path.now ≤ c.loop-sibling.sibling-index = omega arith in
    (omega arith, omega (arith, c.loop-sibling.invariant.shorter, length_below_root c.loop-sibling.place.node c.loop-sibling.place.last (omega arith)))

pub returns-then-ne : goal.returns-then-ne
returns-then-ne g c =
    let end = rebuild_at_root g.H.NodeHash.digest c.loop-sibling.place.node c.loop-sibling.place.last c.loop-sibling.value c.loop-sibling.sibling-index
    c.args.path.now (omega arith) (omega arith) in (
      omega arith,
      omega (arith, c.loop-sibling.invariant.shorter, length_at_root c.loop-sibling.place.node c.loop-sibling.place.last (omega arith)),
      λ h. differ c.loop-sibling.value c.args.root.now c.ne.result c.ne.ensures c.if-ne.true
          (same_some c.loop-sibling.value c.args.root.now (sym (c.loop-sibling.invariant.rebuilds ∙ end) ∙ h)),
    )

pub returns-else-ne : goal.returns-else-ne
returns-else-ne g c =
    let end = rebuild_at_root g.H.NodeHash.digest c.loop-sibling.place.node c.loop-sibling.place.last c.loop-sibling.value c.loop-sibling.sibling-index
    c.args.path.now (omega arith) (omega arith) in (
      omega arith,
      c.loop-sibling.invariant.rebuilds ∙ end ∙ ap Some (agree c.loop-sibling.value c.args.root.now c.ne.result c.ne.ensures c.if-ne.false),
    )
