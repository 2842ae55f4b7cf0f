use Rattle.std.proofs.Common.{◌≡◌, ℕ, [], length, Vec, Global}
use Rattle.std.specs.Prelude.{Some, slice_get}
use Rattle.ct_lines.specs.declared.request.FrontRequest.{FrontRequest}
use Rattle.ct_lines.proofs.plan.no_tasks.Given as goal

abbrev pub invariant-loop-front : goal.invariant-loop-front
invariant-loop-front l = record {
  count : length l.lists.items ≡ l._front;
  empty : (k : ℕ) (v : Vec FrontRequest Global) → slice_get l.lists.items k ≡ Some v → v.items ≡ [];
}
