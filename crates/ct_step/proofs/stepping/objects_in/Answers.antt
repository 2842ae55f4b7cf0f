use Rattle.std.proofs.Common.{◌≡◌, rules, inl, map, length}
use Rattle.ct_step.specs.Resumed.{object_parts}
use Rattle.ct_step.specs.StepWords.{bundle_size}
use Rattle.ct_step.proofs.StepObjects.{named_parts, none_named_in}
use Rattle.ct_step.proofs.Standing.{sized}
use Rattle.ct_step.proofs.stepping.objects_in.Goals as goal

pub returns-then-branch-clause-found : goal.returns-then-branch-clause-found
returns-then-branch-clause-found c =
    let named = rw (c.if-branch.true, c.deref.ensures.value) at c.in_ok-are_tiles.ensures in
    inl (c.in_ok-objects.ensures, named_parts c.in_ok-objects.objects.items named)

pub returns-then-branch-clause-named : goal.returns-then-branch-clause-named
returns-then-branch-clause-named c = rw (c.if-branch.true, c.deref.ensures.value) at c.in_ok-are_tiles.ensures

pub returns-then-branch-clause-few : goal.returns-then-branch-clause-few
returns-then-branch-clause-few c =
    let size : bundle_size (map object_parts c.in_ok-objects.objects.items) ≡ length c.args.bundle.now =
    sized (map object_parts c.in_ok-objects.objects.items) c.args.bundle.now c.in_ok-objects.ensures in
    search (rules, size)

pub returns-clause-found : goal.returns-clause-found
returns-clause-found c =
    let none = rw (c.if-branch.false, c.deref.ensures.value) at c.in_ok-are_tiles.ensures in
    none_named_in c.args.bundle.now c.in_ok-objects.objects c.new-else-branch.result.items c.new-else-branch.ensures.items c.in_ok-objects.ensures none
