use Rattle.std.proofs.Common.{◌∙◌, map, ap, arith}
use Rattle.std.proofs.lemmas.List.{map_push}
use Rattle.ct_step.specs.Resumed.{object_parts}
use Rattle.ct_step.proofs.Bundles.{read-stuck, read-less, read-more}
use Rattle.ct_step.proofs.bundle.objects_of.Goals as goal

pub unreachable-requires : goal.unreachable-requires
unreachable-requires c =
    read-stuck (map object_parts c.objects.objects.items) c.requires.0 c.args.bundle.now c.objects.reader c.objects.invariant
    (λ z. grind (arith, z, c.is_at_end.ensures, c.objects-test.true))
    c.in-None.ensures.none c.requires.1

pub objects-smaller : goal.objects-smaller
objects-smaller c = read-less (object_parts c.in-Some.object) c.objects.reader c.object_at.new.reader c.in-Some.ensures.some.1

pub objects-preserved : goal.objects-preserved
objects-preserved c =
    read-more (map object_parts c.objects.objects.items) (map object_parts c.push.new.self.items) (object_parts c.in-Some.object) c.args.bundle.now
    c.objects.reader c.object_at.new.reader c.objects.invariant c.in-Some.ensures.some.0 c.in-Some.ensures.some.1
    (ap (map object_parts) c.in_ok-push-in-Some.ensures.items ∙ map_push object_parts c.objects.objects.items c.in-Some.object)
