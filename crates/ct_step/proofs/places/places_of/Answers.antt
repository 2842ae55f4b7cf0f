use Rattle.std.proofs.Common.{arith}
use Rattle.ct_step.proofs.Standing.{no_object, fits_in, hashed_place, placed_more, placed_all}
use Rattle.ct_step.proofs.places.places_of.Goals as goal

pub overflow_add-start-in-loop-object : goal.overflow_add-start-in-loop-object
overflow_add-start-in-loop-object c =
    omega (
      arith,
      c.requires,
      fits_in c.args.objects.now c.loop-object.object-index c.loop-object.end no_object c.loop-object.places.items (omega (arith, c.loop-object-test.true)) c.loop-object.invariant,
    )

pub overflow_add-end : goal.overflow_add-end
overflow_add-end c =
    omega (
      arith,
      c.requires,
      fits_in c.args.objects.now c.loop-object.object-index c.loop-object.end no_object c.loop-object.places.items (omega (arith, c.loop-object-test.true)) c.loop-object.invariant,
    )

pub loop-object-preserved : goal.loop-object-preserved
loop-object-preserved c =
    placed_more c.args.objects.now c.loop-object.object-index c.loop-object.end _ no_object _ c.loop-object.places.items c.push.new.self.items
    (omega (arith, c.loop-object-test.true)) c.loop-object.invariant c.in_ok-push.ensures.items
    (hashed_place c.args.objects.now c.loop-object.object-index c.loop-object.end c.digest_of.result c.digest_of.ensures) (omega arith)

pub returns : goal.returns
returns c =
    placed_all c.args.objects.now c.loop-object.object-index c.loop-object.end c.loop-object.places.items (omega (arith, c.loop-object-test.false)) c.loop-object.invariant
