use Rattle.std.specs.Borrow.{Bor}
use Rattle.std.proofs.Common.{ℕ, List, arith}
use Rattle.ct_guard.proofs.StepBodies.{passes_at, stops_at, stops_after, none_after}
use Rattle.ct_guard.proofs.step_receipts.pass_leaves.Goals as goal

abbrev bytes : Bor (List ℕ) → List ℕ
bytes leaf = leaf.now

pub returns-in-Err : goal.returns-in-Err
returns-in-Err c =
    let l = c.place in
    l.invariant.1 c.in-Err.refusal
    (stops_at bytes c.args.last.now c.args.first c.args.leaves.now l.place _ (omega (arith, c.place-test.true)) c.in-Err.refusal c.in-Err.ensures)

pub place-preserved : goal.place-preserved
place-preserved c =
    let l = c.place in (
      λ b. l.invariant.0 (passes_at bytes c.args.last.now c.args.first c.args.leaves.now l.place _ (omega (arith, c.place-test.true)) c.in-Ok.ensures b),
      λ r s. l.invariant.1 r (stops_after bytes c.args.last.now c.args.first c.args.leaves.now l.place _ (omega (arith, c.place-test.true)) r c.in-Ok.ensures s),
      omega (arith, c.place-test.true),
    )

pub returns : goal.returns
returns c = c.place.invariant.0 (none_after bytes c.args.last.now c.args.first c.args.leaves.now c.place.place (omega (arith, c.place-test.false)))
