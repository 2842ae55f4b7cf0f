use Rattle.std.proofs.Common.{refl}
use Rattle.std.proofs.lemmas.Bool.{both_ways}
use Rattle.ct_verify.proofs.Comparing.{same_parts}
use Rattle.ct_subtrees.proofs.explained.is_same_string.Goals as goal

pub returns-then-left-clause-strings : goal.returns-then-left-clause-strings
returns-then-left-clause-strings c = (
  λ t. rw (c.is_same-left.ensures.same.0 c.if-left.true, c.is_same-right.ensures.same.0 t) refl,
  λ e. c.is_same-right.ensures.same.1
      (same_parts 32 c.args.a.now.left c.args.a.now.right c.args.b.now.left c.args.b.now.right c.is_same-left.ensures.first c.is_same-left.ensures.second e).1,
)

pub returns-else-left-clause-strings : goal.returns-else-left-clause-strings
returns-else-left-clause-strings c = (
  λ t. absurd (both_ways c.is_same-left.result c.if-left.false t),
  λ e. c.is_same-left.ensures.same.1
      (same_parts 32 c.args.a.now.left c.args.a.now.right c.args.b.now.left c.args.b.now.right c.is_same-left.ensures.first c.is_same-left.ensures.second e).0,
)
