use Rattle.std.proofs.Common.{◌≡◌, map, take}
use Rattle.serde_json.specs.View.{view}
use Rattle.ct_core.specs.Replies.{shown_text}
use Rattle.ct_lines.specs.ReplyText.{entry_data}
use Rattle.ct_lines.proofs.writing.entries_array.Given as goal

abbrev pub invariant-loop-entry : goal.invariant-loop-entry
invariant-loop-entry l = map view l.values.items ≡ map entry_data (map shown_text (take l.entry-index l.entries))
