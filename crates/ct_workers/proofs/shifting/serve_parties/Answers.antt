use Rattle.std.proofs.Common.{List, sym, subst, ◌∙◌}
use Rattle.ct_house.specs.House.{FrontView}
use Rattle.ct_workers.specs.Fronts.{AreFrontsOf}
use Rattle.ct_workers.specs.Shifts.{start_of}
use Rattle.ct_workers.proofs.ShiftLemmas.{does_stay, lanes_count, shifts_stay}
use Rattle.ct_workers.proofs.shifting.serve_parties.Goals as goal

pub serve_shift-requires-clause-count : goal.serve_shift-requires-clause-count
serve_shift-requires-clause-count g c κs within =
    let start = start_of c.args.house in
    let begun = start_of c.in_ok-begun.begun in
    let stay = shifts_stay 1 start begun c.args.shifts.items c.in_ok-begun.ensures.do_shifts in
    c.requires.work.1 ∙ lanes_count start.house start.fronts c.requires.fronts ∙ sym stay.1
    ∙ sym (lanes_count begun.house begun.fronts (stay.0 c.requires.fronts))

pub returns-in-Ok-clause-fronts : goal.returns-in-Ok-clause-fronts
returns-in-Ok-clause-fronts g c =
    let start = start_of c.args.house in
    let begun = start_of c.in_ok-begun.begun in
    let end = start_of c.in_ok-done.done in
    subst (λ (l : List FrontView). AreFrontsOf c.in_ok-done.done.sequencer l) (sym c.in-Ok.ensures.fronts)
    (does_stay begun end c.args.last c.in_ok-done.ensures.does
    ((shifts_stay 1 start begun c.args.shifts.items c.in_ok-begun.ensures.do_shifts).0 c.requires.fronts))
