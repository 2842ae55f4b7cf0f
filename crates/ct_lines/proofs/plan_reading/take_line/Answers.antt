use Rattle.std.proofs.Common.{◌≡◌, Bool, true, false, subst, rules}
use Rattle.json_lines.specs.Lines.{TakesNext}
use Rattle.ct_lines.proofs.ReadingLemmas.{line_taken, none_taken}
use Rattle.ct_lines.proofs.plan_reading.take_line.Goals as goal

pub returns-then-not-is_line-clause-taken : goal.returns-then-not-is_line-clause-taken
returns-then-not-is_line-clause-taken g c =
    let source = g.R.Read.remaining c.args.input.now in
    let source_next = g.R.Read.remaining c.next_line.new.input in
    let line = c.next_line.new.line.items in
    let no : c.in-Ok.is_line ≡ false = search rules in
    none_taken c.args.fronts c.args.plan.now line source source_next
    (subst (λ (b : Bool). TakesNext 1048578 source source_next line b) no c.in-Ok.ensures.line)

pub returns-clause-taken : goal.returns-clause-taken
returns-clause-taken g c =
    let source = g.R.Read.remaining c.args.input.now in
    let source_next = g.R.Read.remaining c.next_line.new.input in
    let line = c.next_line.new.line.items in
    let yes : c.in-Ok.is_line ≡ true = search rules in
    let reads = subst (λ (b : Bool). TakesNext 1048578 source source_next line b) yes c.in-Ok.ensures.line in
    line_taken c.args.fronts c.args.plan.now c.add_line.new.self line source source_next (rw c.deref.ensures.value at c.in_ok-add_line.ensures.taken) c.in-Ok.ensures.one reads
