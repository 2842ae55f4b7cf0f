use Rattle.std.proofs.Common.{◌≡◌, ◌<◌, length, sym, rules}
use Rattle.std.proofs.lemmas.Result.{err_from_is_err_and}
use Rattle.ct_promise.proofs.Loops.{others_go_on, others_second, others_fail, others_done}
use Rattle.ct_promise.proofs.cutting.after_others.Goals as goal

pub returns-in_err-extension : goal.returns-in_err-extension
returns-in_err-extension c =
    let p = err_from_is_err_and c.from_residual.result c.from_residual.ensures.1 in
    let some : 0 < length c.others.rest.now = search rules in
    rw (p.1, p.2) (others_fail c.args.identifier.now c.others.rest.now c.args.extensions.now c.in_err-extension.field-0.0 c.others.invariant some
    c.in_err-extension.ensures.gives)

pub returns-then-eq : goal.returns-then-eq
returns-then-eq c =
    let some : 0 < length c.others.rest.now = search rules in
    let e = c.in_ok-extension.extension in
    others_second c.args.identifier.now c.others.rest.now c.args.extensions.now (e.identifier.now, e.value.now, c.in_ok-extension.after.now)
    c.others.invariant some c.in_ok-extension.ensures.gives (sym c.if-eq.ensures)

pub others-preserved : goal.others-preserved
others-preserved c =
    let some : 0 < length c.others.rest.now = search rules in
    let e = c.in_ok-extension.extension in
    others_go_on c.args.identifier.now c.others.rest.now c.args.extensions.now (e.identifier.now, e.value.now, c.in_ok-extension.after.now)
    c.others.invariant some c.in_ok-extension.ensures.shorter c.in_ok-extension.ensures.gives (sym c.if-eq.ensures)

pub returns : goal.returns
returns c =
    let none : length c.others.rest.now ≡ 0 = search rules in
    others_done c.args.identifier.now c.others.rest.now c.args.extensions.now c.others.invariant none
