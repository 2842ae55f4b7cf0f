use Rattle.std.proofs.Common.{◌≡◌, ◌<◌, ℕ, List, length, Result, Ok, sym, ap, ◌∙◌, rules}
use Rattle.std.proofs.lemmas.Result.{err_from_is_err_and}
use Rattle.ct_promise.specs.DerReading.{◌>>=◌}
use Rattle.ct_promise.specs.declared.fault.CutFault.{CutFault}
use Rattle.ct_promise.proofs.Loops.{sole_goes_on, sole_here, sole_fails, sole_missing}
use Rattle.ct_promise.proofs.cutting.sole_extension.Goals as goal

pub returns-in_err-extension : goal.returns-in_err-extension
returns-in_err-extension c =
    let p = err_from_is_err_and c.from_residual.result c.from_residual.ensures.1 in
    let some : 0 < length c.others.rest.now = search rules in
    rw (p.1, p.2) (sole_fails c.args.identifier.now c.others.rest.now c.args.extensions.now c.in_err-extension.field-0.0 c.others.invariant some
    c.in_err-extension.ensures.gives)

pub returns-in_err-after_others : goal.returns-in_err-after_others
returns-in_err-after_others c =
    let p = err_from_is_err_and c.from_residual-in_err-after_others.result c.from_residual-in_err-after_others.ensures.1 in
    let some : 0 < length c.others.rest.now = search rules in
    let e = c.in_ok-extension.extension in
    let here = sole_here c.args.identifier.now c.others.rest.now c.args.extensions.now (e.identifier.now, e.value.now, c.in_ok-extension.after.now)
    c.others.invariant some c.in_ok-extension.ensures.gives (sym c.if-eq.ensures) in
    rw (p.1, p.2) (here ∙ ap (λ (r : Result (List ℕ) CutFault). r >>= λ none. Ok (c.others.rest.now, e.value.now, c.in_ok-extension.after.now))
    c.in_err-after_others.ensures)

pub returns-then-eq : goal.returns-then-eq
returns-then-eq c =
    let some : 0 < length c.others.rest.now = search rules in
    let e = c.in_ok-extension.extension in
    let here = sole_here c.args.identifier.now c.others.rest.now c.args.extensions.now (e.identifier.now, e.value.now, c.in_ok-extension.after.now)
    c.others.invariant some c.in_ok-extension.ensures.gives (sym c.if-eq.ensures) in
    here ∙ ap (λ (r : Result (List ℕ) CutFault). r >>= λ none. Ok (c.others.rest.now, e.value.now, c.in_ok-extension.after.now)) c.in_ok-after_others.ensures

pub others-preserved : goal.others-preserved
others-preserved c =
    let some : 0 < length c.others.rest.now = search rules in
    let e = c.in_ok-extension.extension in
    sole_goes_on c.args.identifier.now c.others.rest.now c.args.extensions.now (e.identifier.now, e.value.now, c.in_ok-extension.after.now)
    c.others.invariant some c.in_ok-extension.ensures.shorter c.in_ok-extension.ensures.gives (sym c.if-eq.ensures)

pub returns : goal.returns
returns c =
    let none : length c.others.rest.now ≡ 0 = search rules in
    sole_missing c.args.identifier.now c.others.rest.now c.args.extensions.now c.others.invariant none
