use Rattle.std.proofs.Common.{◌≡◌, ◌∙◌, ℕ, List, Some, None, Vec, Global, map, sym, ap}
use Rattle.std.specs.Prelude.{option_map}
use Rattle.std.proofs.lemmas.List.{map_push}
use Rattle.serde_json.specs.View.{view}
use Rattle.json_lines.specs.Fields.{bytes_in}
use Rattle.json_lines.proofs.Items.{front_none, front_more, front_stops, front_all}
use Rattle.json_lines.proofs.fields.bytes_of_values.Goals as goal

abbrev items : Vec ℕ Global → List ℕ
items v = v.items

pub loop-value-init : goal.loop-value-init
loop-value-init c = front_none bytes_in c.args.values.now _ (ap (map items) c.new-all.ensures.items)

pub returns-in_default : goal.returns-in_default
returns-in_default c =
    let l = c.loop-value in
    let x = c.value-item.result in
    let is : None ≡ bytes_in (view x) = ap (option_map items) (sym c.in_default.is) ∙ c.in_ok-bytes.ensures in
    front_stops bytes_in c.args.values.now l.value-index x (map items l.all.items) c.loop-value-test.true c.value-item.is is ∙ l.invariant

pub loop-value-preserved : goal.loop-value-preserved
loop-value-preserved c =
    let l = c.loop-value in
    let x = c.value-item.result in
    let b = c.in-Some.bytes in
    let is : Some b.items ≡ bytes_in (view x) = ap (option_map items) (sym c.in-Some.is) ∙ c.in_ok-bytes.ensures in
    front_more bytes_in c.args.values.now l.value-index x (map items l.all.items) (map items c.push.new.self.items) b.items c.loop-value-test.true c.value-item.is
    is (ap (map items) c.in_ok-push.ensures.items ∙ map_push items l.all.items b) ∙ l.invariant

pub returns : goal.returns
returns c =
    let l = c.loop-value in
    front_all bytes_in c.args.values.now l.value-index (map items l.all.items) c.loop-value-test.false ∙ l.invariant
