use Rattle.std.proofs.Common.{◌≡◌, ◌+◌, ◌-◌, ◌*◌, ℕ, take, drop, arith, refl, ap}
use Rattle.ct_step.specs.Objects.{cut_object}
use Rattle.ct_step.proofs.Loops.{cut-named}
use Rattle.ct_step.proofs.Written.{written-none, written-more}
use Rattle.ct_step.proofs.objects.push_level.Goals as goal

pub loop-place-init : goal.loop-place-init
loop-place-init c = written-none c.args.bundle.now.items c.args.bundle.now.items (cut_object c.args.level c.args.first c.args.hashes.now) 0 refl

pub loop-place-preserved : goal.loop-place-preserved
loop-place-preserved c =
    let i = c.loop-place.place in
    let w = c.width_at.result in
    let E = c.args.hashes.now in
    let e : 256 * i + w - 256 * i ≡ w = omega arith in
    written-more c.args.bundle.now.items c.loop-place.bundle.items c.push_hashes.new.bundle.items (cut_object c.args.level c.args.first E) 0 i _
    c.loop-place.invariant c.in_ok-push_hashes.ensures
    (cut-named c.args.level c.args.first i w E _ (ap (λ (n : ℕ). take n (drop (256 * i) E)) e) c.width_at.ensures.most c.width_at.ensures.all)
