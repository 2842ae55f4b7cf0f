use Rattle.std.proofs.Common.{◌++◌, ◌∷◌, [], refl, arith}
use Rattle.ct_step.specs.Resumed.{object_parts}
use Rattle.ct_step.proofs.Bundles.{read-stuck, read-less, read-more}
use Rattle.ct_step.proofs.bundle.is_bundle.Goals as goal

pub returns-in_default : goal.returns-in_default
returns-in_default c = λ objects b.
    read-stuck c.objects.invariant.0 objects c.args.bundle.now c.objects.reader c.objects.invariant.1
    (λ z. grind (arith, z, c.is_at_end.ensures, c.objects-test.true))
    c.in_default.ensures.none b

pub objects-smaller : goal.objects-smaller
objects-smaller c = read-less (object_parts c.in-Some._object) c.objects.reader c.object_at.new.reader c.in-Some.ensures.some.1

pub objects-preserved : goal.objects-preserved
objects-preserved c = (
  c.objects.invariant.0 ++ object_parts c.in-Some._object ∷ [],
  read-more c.objects.invariant.0 (c.objects.invariant.0 ++ object_parts c.in-Some._object ∷ []) (object_parts c.in-Some._object) c.args.bundle.now
      c.objects.reader c.object_at.new.reader c.objects.invariant.1 c.in-Some.ensures.some.0 c.in-Some.ensures.some.1 refl,
)
