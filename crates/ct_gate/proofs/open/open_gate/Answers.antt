use Rattle.std.proofs.Common.{◌≡◌, ◌≤◌, ◌+◌, ◌-◌, ◌++◌, ◌∷◌, ℕ, [], true, sym, ap, ◌∙◌, subst, subst₂, arith}
use Rattle.ct_gate.specs.Opening.{view_of_fronts, new_fronts, AreNewFronts}
use Rattle.atomic_table.specs.Seated.{TableId}
use Rattle.ct_gate.proofs.Opening.{opens, no_front_left, one_more_front}
use Rattle.ct_gate.proofs.open.open_gate.Goals as goal

pub of_words-requires : goal.of_words-requires
of_words-requires c = let few : c.from.result ≤ 16 = omega arith in opens c.from.result few

pub loop-number-preserved : goal.loop-number-preserved
loop-number-preserved c =
    let i = c.loop-number.invariant in
    let s = c.new_front.ensures.seat in
    let a = c.in_ok-push.ensures in
    let b = c.in_ok-push-2.ensures in
    let gate = c.loop-number.seat.table_id in
    let n = c.loop-number.number in
    let grown = one_more_front gate c.args.ring n c.loop-number.intakes.items c.loop-number.outlets.items c.in_ok-intake.intake c.in_ok-intake.outlet i.5
    c.in_ok-intake.ensures.front in
    let there = subst (λ (z : TableId). AreNewFronts z c.args.ring (n + 1) (c.loop-number.intakes.items ++ c.in_ok-intake.intake ∷ [])
    (c.loop-number.outlets.items ++ c.in_ok-intake.outlet ∷ [])) (sym s.0) grown in (
      s.0 ∙ i.0,
      ap (λ z. z.words) s.0 ∙ i.1,
      ap (λ z. z.slots) s.0 ∙ i.2,
      i.3,
      s.1,
      subst₂ (AreNewFronts c.new_front.new.seat.table_id c.args.ring (n + 1)) (sym a.items) (sym b.items) there,
    )

pub invariant_of-shutter : goal.invariant_of-shutter
invariant_of-shutter c =
    let i = c.loop-number.invariant in
    let all : c.loop-number.number ≡ c.args.fronts = omega arith in
    (i.0, i.1, i.2, no_front_left c.args.fronts c.loop-number.seat.me (i.4 ∙ ap (λ (n : ℕ). (view_of_fronts (new_fronts n (c.args.fronts - n)) true, [])) all))

pub returns-clause-fronts : goal.returns-clause-fronts
returns-clause-fronts c =
    let i = c.loop-number.invariant in
    let all : c.loop-number.number ≡ c.args.fronts = omega arith in
    subst (λ (n : ℕ). AreNewFronts c.loop-number.seat.table_id c.args.ring n c.loop-number.intakes.items c.loop-number.outlets.items) all i.5
