use Rattle.std.proofs.Common.{◌≡◌, ◌∙◌, Some, None, sym}
use Rattle.serde_json.specs.View.{view}
use Rattle.json_lines.specs.Fields.{hash_in}
use Rattle.json_lines.proofs.Items.{front_none, front_more, front_stops, front_all}
use Rattle.json_lines.proofs.fields.hash_values.Goals as goal

pub loop-value-init : goal.loop-value-init
loop-value-init c = front_none hash_in c.args.values.now _ c.new-all.ensures.items

pub returns-in_default : goal.returns-in_default
returns-in_default c =
    let l = c.loop-value in
    let x = c.value-item.result in
    let is : None ≡ hash_in (view x) = sym c.in_default.is ∙ c.in_ok-hash.ensures in
    front_stops hash_in c.args.values.now l.value-index x l.all.items c.loop-value-test.true c.value-item.is is ∙ l.invariant

pub loop-value-preserved : goal.loop-value-preserved
loop-value-preserved c =
    let l = c.loop-value in
    let x = c.value-item.result in
    let is : Some c.in-Some.hash ≡ hash_in (view x) = sym c.in-Some.is ∙ c.in_ok-hash.ensures in
    front_more hash_in c.args.values.now l.value-index x l.all.items c.push.new.self.items c.in-Some.hash c.loop-value-test.true c.value-item.is is
    c.in_ok-push.ensures.items ∙ l.invariant

pub returns : goal.returns
returns c =
    let l = c.loop-value in
    front_all hash_in c.args.values.now l.value-index l.all.items c.loop-value-test.false ∙ l.invariant
