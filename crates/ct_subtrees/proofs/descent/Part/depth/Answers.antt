use Rattle.std.proofs.Common.{sym, ◌≤◌, ◌^◌, ◌-◌, ◌+◌, ◌≡◌, ◌∙◌, ap, arith, true, subst}
use Rattle.ct_subtrees.specs.Walk.{is_split, part_below}
use Rattle.ct_subtrees.specs.declared.descent.Part.{Part}
use Rattle.ct_subtrees.proofs.Steps.{not_shown}
use Rattle.ct_subtrees.proofs.Depths.{halves_below, whole_part, split_if, at-root, at-next, split_next}
use Rattle.ct_subtrees.proofs.descent.Part.depth.Goals as goal

pub loop-part-init : goal.loop-part-init
loop-part-init c = record {
  some = c.requires.some;
  inside = c.requires.inside;
  smaller = omega arith;
  few = omega arith;
  halved = omega (arith, c.well_formed);
  part = at-root c.args.self;
  split = λ d l. absurd (omega arith);
}

pub loop-part-preserved : goal.loop-part-preserved
loop-part-preserved c =
    let l = c.loop-part in
    let halves = halves_below l.depth l.part l.invariant.few l.invariant.halved (l.invariant.some, l.invariant.inside)
    (split_if l.part (not_shown (whole_part l.part) c.is_all.result c.is_all.ensures.1 c.loop-part-test.true)) in
    let s : is_split l.part ≡ true = split_if l.part (not_shown (whole_part l.part) c.is_all.result c.is_all.ensures.1 c.loop-part-test.true) in
    record {
      some = c.below-part.ensures.some;
      inside = c.below-part.ensures.inside;
      smaller = omega (arith, l.invariant.smaller, c.below-part.ensures.smaller s);
      few = omega (arith, halves.0);
      halved = subst (λ (t : Part). t.place.size ≤ 2 ^ (64 - (l.depth + 1))) (sym c.below-part.ensures.part) halves.1;
      part = c.below-part.ensures.part ∙ ap (λ (t : Part). part_below t) l.invariant.part ∙ at-next l.depth c.args.self;
      split = split_next l.depth c.args.self l.invariant.split (subst (λ (t : Part). is_split t ≡ true) l.invariant.part s);
    }
