use Rattle.std.proofs.Common.{List, ℕ, subst}
use Rattle.std.specs.Io.KnownBytes.{Appends}
use Rattle.std.proofs.lemmas.Result.{on_ok_weaker}
use Rattle.ct_core.specs.Settlement.{Log}
use Rattle.ct_lines.specs.Frozen.{frozen_text}
use Rattle.ct_workers.specs.Output.{IsFrozenFault}
use Rattle.ct_workers.specs.Shifts.{start_of}
use Rattle.ct_workers.specs.Output.{IsClosed, SomeReplies, parties_begun, parties_done}
use Rattle.json_lines.specs.Sends.{SendsSome}
use Rattle.ct_workers.proofs.FrontLemmas.{if_err_is}
use Rattle.ct_workers.proofs.OutputLemmas.{if_err_both, writes_all, writes_last}
use Rattle.ct_workers.proofs.script.serve_parties_and_log.Goals as goal

pub returns-in-Err-clause-some : goal.returns-in-Err-clause-some
returns-in-Err-clause-some g c = λ lines are.
    parties_begun c.in_ok-sequencer.field-0.sequencer c.in_ok-sequencer.field-0.fronts.items c.in_ok-sequencer.field-0.replies.items c.from.ensures
    c.in_ok-sequencer.ensures.serve
    (subst (λ (l : List ℕ). SendsSome (g.W.Write.contents c.args.output.now) (g.W.Write.contents c.send.new.output) l)
    c.deref.ensures.value c.in-Err.ensures.some)

pub returns-in_err-log-clause-some : goal.returns-in_err-log-clause-some
returns-in_err-log-clause-some g c =
    if_err_is _ _ c.in_err-log.field-0.0 c.from_residual-in_err-log.ensures.1
    (λ lines are. parties_done c.in_ok-sequencer.field-0.sequencer c.in_ok-sequencer.field-0.fronts.items c.in_ok-sequencer.field-0.replies.items
    c.in_err-log.ensures.faults c.in_ok-sequencer.ensures.serve
    (subst (λ (l : List ℕ). Appends (g.W.Write.contents c.args.output.now) (g.W.Write.contents c.send.new.output) l) c.deref.ensures.value c.in-Ok.ensures.all))

pub returns-clause-all : goal.returns-clause-all
returns-clause-all g c =
    let text = c.in_ok-sequencer.field-0.replies.items in
    let old = g.W.Write.contents c.args.output.now in
    let mid = g.W.Write.contents c.send.new.output in
    let new = g.W.Write.contents c.send_frozen.new.output in
    let first : Appends old mid text = subst (λ (l : List ℕ). Appends old mid l) c.deref.ensures.value c.in-Ok.ensures.all in
    let closed : IsClosed c.in_ok-sequencer.field-0.sequencer c.in_ok-sequencer.field-0.fronts.items c.args.close_at c.in_ok-log.log.log = record {
      accepted = c.in_ok-log.log.accepted;
      closes = c.in_ok-log.ensures.closes;
    } in
    on_ok_weaker c.send_frozen.result (λ whole lines are.
    writes_all (start_of c.args.house) c.args.shifts.items c.args.last lines c.args.close_at old mid new c.in_ok-sequencer.field-0.sequencer
    c.in_ok-sequencer.field-0.fronts.items text c.in_ok-log.log.log c.in_ok-sequencer.ensures.serve closed first
    (subst (λ (l : Log). Appends mid new (frozen_text l lines)) c.published.ensures (whole lines are))) c.send_frozen.ensures.all

pub returns-clause-some : goal.returns-clause-some
returns-clause-some g c =
    let text = c.in_ok-sequencer.field-0.replies.items in
    let old = g.W.Write.contents c.args.output.now in
    let mid = g.W.Write.contents c.send.new.output in
    let new = g.W.Write.contents c.send_frozen.new.output in
    let first : Appends old mid text = subst (λ (l : List ℕ). Appends old mid l) c.deref.ensures.value c.in-Ok.ensures.all in
    let closed : IsClosed c.in_ok-sequencer.field-0.sequencer c.in_ok-sequencer.field-0.fronts.items c.args.close_at c.in_ok-log.log.log = record {
      accepted = c.in_ok-log.log.accepted;
      closes = c.in_ok-log.ensures.closes;
    } in
    if_err_both IsFrozenFault _ _ c.send_frozen.result
    (λ f fault some lines are. writes_last (start_of c.args.house) c.args.shifts.items c.args.last lines c.args.close_at old mid new
    c.in_ok-sequencer.field-0.sequencer
    c.in_ok-sequencer.field-0.fronts.items text c.in_ok-log.log.log f c.in_ok-sequencer.ensures.serve closed first fault
    (subst (λ (l : Log). (written : List ℕ) × SomeReplies l lines written × Appends mid new written) c.published.ensures (some lines are)))
    c.send_frozen.ensures.faults c.send_frozen.ensures.some
