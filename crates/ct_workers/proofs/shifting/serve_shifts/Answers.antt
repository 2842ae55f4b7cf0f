use Rattle.std.proofs.Common.{◌+◌, [], ◌∷◌, refl, arith, length-append}
use Rattle.std.specs.Vec.Iter.{into_iter_items}
use Rattle.ct_workers.specs.Shifts.{start_of}
use Rattle.ct_workers.proofs.FrontLemmas.{if_err_is}
use Rattle.ct_workers.proofs.TurnLemmas.{cut_here, cut_on}
use Rattle.ct_workers.proofs.ShiftLemmas.{do_shifts_more, does_stay, next_count, shift_refused, shifts_stay}
use Rattle.ct_workers.proofs.shifting.serve_shifts.Goals as goal

pub serve_shift-requires-clause-count : goal.serve_shift-requires-clause-count
serve_shift-requires-clause-count g c κs within =
    let (t, u, split, so_far, number) = c.loop-shift.invariant in
    next_count _ 1 (start_of c.args.house) (start_of c.loop-shift.house) c.args.shifts.items c.loop-shift.yielded c.in-Some.shift
    (into_iter_items c.next.new.self) c.requires.fronts so_far c.requires.work refl
    (cut_here c.args.shifts.items c.loop-shift.yielded (into_iter_items c.loop-shift.shift-iterator) c.in-Some.shift (into_iter_items c.next.new.self)
    split c.in-Some.ensures.steps.0)

pub end_shift-requires-clause-fronts : goal.end_shift-requires-clause-fronts
end_shift-requires-clause-fronts g c κs within =
    let (t, u, split, so_far, number) = c.loop-shift.invariant in
    let now = start_of c.loop-shift.house in
    does_stay now (start_of c.in_ok-done.done) c.in-Some.shift.work c.in_ok-done.ensures.does
    ((shifts_stay 1 (start_of c.args.house) now c.loop-shift.yielded so_far).0 c.requires.fronts)

pub returns-in_err-successor-clause-faults : goal.returns-in_err-successor-clause-faults
returns-in_err-successor-clause-faults g c =
    let (t, u, split, so_far, number) = c.loop-shift.invariant in
    if_err_is _ _ c.in_err-successor.field-0.0 c.from_residual-in_err-successor.ensures.1
    (shift_refused (start_of c.args.house) (start_of c.loop-shift.house) (start_of c.in_ok-done.done) c.args.shifts.items c.loop-shift.yielded
    c.in-Some.shift (into_iter_items c.next.new.self) c.in_err-successor.field-0.0 so_far c.in_ok-done.ensures.does
    (cut_here c.args.shifts.items c.loop-shift.yielded (into_iter_items c.loop-shift.shift-iterator) c.in-Some.shift (into_iter_items c.next.new.self)
    split c.in-Some.ensures.steps.0)
    c.in_err-successor.ensures.refused)

pub loop-shift-preserved : goal.loop-shift-preserved
loop-shift-preserved g c =
    let (t, u, split, so_far, number) = c.loop-shift.invariant in
    let size = length-append c.loop-shift.yielded (c.in-Some.shift ∷ []) in (
      tt,
      tt,
      cut_on c.args.shifts.items c.loop-shift.yielded (into_iter_items c.loop-shift.shift-iterator) c.in-Some.shift (into_iter_items c.next.new.self)
          split c.in-Some.ensures.steps.0,
      do_shifts_more 1 (c.loop-shift.number + 1) (start_of c.args.house) (start_of c.loop-shift.house) (start_of c.in_ok-done.done)
          (start_of c.in_ok-successor.successor) c.loop-shift.yielded c.in-Some.shift so_far c.in_ok-done.ensures.does
          (omega (arith, number)) c.in_ok-successor.ensures.ends_shift,
      omega (arith, number, size),
    )
