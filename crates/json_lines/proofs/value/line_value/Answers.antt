use Rattle.serde_json.specs.Errors.{IsMemory}
use Rattle.serde_json.specs.View.{view}
use Rattle.json_lines.proofs.Values.{value_long, value_read, value_unread}
use Rattle.json_lines.proofs.value.line_value.Goals as goal

pub returns-then-line-longest-clause-value : goal.returns-then-line-longest-clause-value
returns-then-line-longest-clause-value c = value_long c.args.longest c.args.line.now c.if-line-longest.true

pub returns-in-Ok-clause-value : goal.returns-in-Ok-clause-value
returns-in-Ok-clause-value c =
    value_read c.args.longest c.args.line.now (view c.in-Ok.value) c.if-line-longest.false c.in-Ok.ensures.ok.0 c.in-Ok.ensures.ok.1

pub returns-in-Err-clause-value : goal.returns-in-Err-clause-value
returns-in-Err-clause-value c =
    value_unread c.args.longest c.args.line.now c.from.result.value (IsMemory c.in-Err.error) c.from.ensures c.in-Err.ensures.err
