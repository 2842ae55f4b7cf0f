use Rattle.std.proofs.Common.{◌≢◌, All, subst, sym, rules}
use Rattle.json_lines.proofs.KeptLines.{cut_to_content, first_line, none_is_one, none_left}
use Rattle.json_lines.proofs.lines.next_line.Goals as goal

pub returns-then-is_empty-clause-line : goal.returns-then-is_empty-clause-line
returns-then-is_empty-clause-line g c =
    none_left c.args.most _ _ c.take_line.new.line.items c.take_line.new.line.items c.requires c.in_ok-take_line.ensures.line (search rules)

pub returns-clause-line : goal.returns-clause-line
returns-clause-line g c =
    let line = c.take_line.new.line.items in
    let cut = cut_to_content line c.deref.result.now c.content-end.result.now c.truncate.new.self.items c.deref.ensures.value c.content-end.ensures (search
    rules) in
    first_line c.args.most _ _ line c.truncate.new.self.items c.in_ok-take_line.ensures.line (search rules) cut

pub returns-then-is_empty-clause-one : goal.returns-then-is_empty-clause-one
returns-then-is_empty-clause-one g c = none_is_one c.take_line.new.line.items (search rules)

pub returns-clause-one : goal.returns-clause-one
returns-clause-one g c =
    let line = c.take_line.new.line.items in
    let cut = cut_to_content line c.deref.result.now c.content-end.result.now c.truncate.new.self.items c.deref.ensures.value c.content-end.ensures (search
    rules) in
    subst (All (λ x. x ≢ 10)) (sym cut) c.in_ok-take_line.ensures.one
