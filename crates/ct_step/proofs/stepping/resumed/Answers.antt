use Rattle.std.proofs.Common.{◌≡◌, rules, inl, inr, refl, map, length}
use Rattle.sha2.specs.Sha256.{sha256}
use Rattle.ct_step.specs.Resumed.{object_parts}
use Rattle.ct_step.specs.StepAnswers.{IsResumeReply}
use Rattle.ct_step.specs.StepWords.{bundle_size, references_of, refuses, rolls_out}
use Rattle.ct_step.specs.declared.answer.StepRefusal.TheVariants.{Bundle}
use Rattle.ct_step.proofs.StepKept.{by_reply}
use Rattle.ct_step.proofs.StepObjects.{named_parts, none_named, not_rolled_out}
use Rattle.ct_step.proofs.Standing.{sized}
use Rattle.ct_step.proofs.stepping.resumed.Goals as goal

pub returns-in-Err : goal.returns-in-Err
returns-in-Err c =
    let is = rw c.in_ok-from-in-Err.was at c.from.ensures in
    by_reply c.refused_line.result c.args.origin.now (refuses Bundle) (IsResumeReply c.args.line.now c.args.bundle.now)
    (inr (refl, not_rolled_out c.args.line.now c.args.bundle.now c.in-Err.fault is c.in-Err.ensures)) c.refused_line.ensures

pub returns-then-not-branch : goal.returns-then-not-branch
returns-then-not-branch c =
    let none = rw (c.if-not-branch.true, c.deref.ensures.value) at c.in_ok-are_tiles.ensures in
    by_reply c.refused_line-then-not-branch.result c.args.origin.now (refuses Bundle)
    (IsResumeReply c.args.line.now c.args.bundle.now)
    (inr (refl, none_named c.args.line.now c.args.bundle.now c.in-Ok.objects c.in-Ok.ensures.0 c.in-Ok.ensures.1 none)) c.refused_line-then-not-branch.ensures

pub places_of-requires : goal.places_of-requires
places_of-requires c =
    let size : bundle_size (map object_parts c.in-Ok.objects.items) ≡ length c.args.bundle.now = sized (map object_parts c.in-Ok.objects.items) c.args.bundle.now c.in-Ok.ensures.1 in
    rw c.deref-2.ensures.value (search (rules, size))

pub returns : goal.returns
returns c =
    let named = rw (c.if-not-branch.false, c.deref.ensures.value) at c.in_ok-are_tiles.ensures in
    let same = rw c.deref-2.ensures.value at c.in_ok-standing.ensures in
    let objects = map object_parts c.in-Ok.objects.items in
    let line = rw (c.deref-3.ensures.value, same) at c.resumed_line.ensures in
    by_reply c.resumed_line.result c.args.origin.now (rolls_out c.args.line.now (references_of sha256 objects))
    (IsResumeReply c.args.line.now c.args.bundle.now)
    (inl (objects, refl, c.in-Ok.ensures.0, (c.in-Ok.ensures.1, named_parts c.in-Ok.objects.items named))) line
