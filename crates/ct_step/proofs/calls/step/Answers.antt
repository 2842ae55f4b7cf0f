use Rattle.std.proofs.Common.{map, arith}
use Rattle.std.proofs.lemmas.List.{length-map}
use Rattle.ct_step.specs.StepBytes.{entry_parts}
use Rattle.ct_step.proofs.Answered.{no_batch, too_many, no_edge, is_step}
use Rattle.ct_step.proofs.calls.step.Goals as goal

pub returns-in_default : goal.returns-in_default
returns-in_default c =
    let none = rw c.in_default.is at c.in_ok-entries.ensures in
    no_batch c.refused_line.result c.args.origin.now c.args.batch.now c.args.edge.now c.args.now c.args.state.now c.args.most _ none c.in_ok-contents.ensures
    c.refused_line.ensures

pub returns-then-len-gt-MOST : goal.returns-then-len-gt-MOST
returns-then-len-gt-MOST c =
    let batch = map entry_parts c.in-Some.entries.items in
    let is = rw c.in-Some.is at c.in_ok-entries.ensures in
    too_many c.refused_line-then-len-gt-MOST.result c.args.origin.now c.args.batch.now c.args.edge.now c.args.now c.args.state.now c.args.most batch _ is
    c.in_ok-contents.ensures (omega (arith, length-map c.in-Some.entries.items entry_parts, c.len.ensures, c.if-len-gt-MOST.true))
    c.refused_line-then-len-gt-MOST.ensures

pub returns-in-Some-contents : goal.returns-in-Some-contents
returns-in-Some-contents c =
    let batch = map entry_parts c.in-Some.entries.items in
    let is = rw c.in-Some.is at c.in_ok-entries.ensures in
    let read = rw c.in-Some-contents.is at c.in_ok-contents.ensures in
    let told = rw c.deref.ensures.value at c.step_reply.ensures in
    is_step c.step_reply.result c.args.origin.now c.args.batch.now c.args.edge.now c.args.now c.args.state.now c.args.most batch
    (map (λ b. b.items) c.in-Some-contents.contents.items) is read
    (omega (arith, length-map c.in-Some.entries.items entry_parts, c.len.ensures, c.if-len-gt-MOST.false)) told

pub returns-in-None : goal.returns-in-None
returns-in-None c =
    let batch = map entry_parts c.in-Some.entries.items in
    let is = rw c.in-Some.is at c.in_ok-entries.ensures in
    let none = rw c.in-None.is at c.in_ok-contents.ensures in
    no_edge c.refused_line-in-None.result c.args.origin.now c.args.batch.now c.args.edge.now c.args.now c.args.state.now c.args.most batch
    c.edge_refusal.result is none (omega (arith, length-map c.in-Some.entries.items entry_parts, c.len.ensures, c.if-len-gt-MOST.false))
    c.edge_refusal.ensures c.refused_line-in-None.ensures
