use Rattle.std.proofs.Common.{◌≡◌, Bool, subst, map}
use Rattle.std.specs.Bool.{MatchBool}
use Rattle.std.proofs.lemmas.Result.{MatchResult-weaker, IfOk-weaker}
use Rattle.ct_data_tiles.proofs.Rows.{text_in}
use Rattle.ct_step.proofs.Made.{edge_state, may_step, stops_step}
use Rattle.ct_step.proofs.step.take_step.Goals as goal

pub returns-clause-may : goal.returns-clause-may
returns-clause-may g c =
    let H = g.H.NodeHash.digest in
    let size_digest = g.met.H.NodeHash.length_digest in
    let line = c.args.line.now in
    let edge = map text_in c.args.edge.now in
    let b = c.in_ok-state.ensures in
    let same : H c.args.entries.now ≡ line.data_tile =
    subst (λ (b : Bool). MatchBool b (H c.args.entries.now ≡ line.data_tile) (H c.args.entries.now ≡ line.data_tile → ⊥)) c.if-not-has_digest.false c.has_digest.ensures in
    MatchResult-weaker c.step_of.result c.step_of.ensures.may
    (λ s may. may_step H size_digest line edge c.args.entries.now c.args.batch.now c.args.now b.0 c.in_ok-state.state b.1 b.2 same may.0 may.1)
    (λ fault. stops_step H size_digest line edge c.args.entries.now c.args.batch.now c.args.now b.0 c.in_ok-state.state b.1 b.2 same fault)

pub returns-clause-from : goal.returns-clause-from
returns-clause-from g c = c.step_of.ensures.from

pub returns-clause-step : goal.returns-clause-step
returns-clause-step g c =
    let H = g.H.NodeHash.digest in
    let line = c.args.line.now in
    let edge = map text_in c.args.edge.now in
    let b = c.in_ok-state.ensures in
    IfOk-weaker c.step_of.result _ _
    (λ s step E is.
    step E (edge_state H g.met.H.NodeHash.length_digest line edge c.args.entries.now b.0 c.in_ok-state.state E b.1 b.2 is) is.partial)
    c.step_of.ensures.step
