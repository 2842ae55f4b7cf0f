use Rattle.std.proofs.Common.{◌≡◌, ◌≤◌, ◌∙◌, ℕ, length, sym, ap}
use Rattle.std.specs.Prelude.{option_map, Result, Ok, Err, IfErr}
use Rattle.serde_json.specs.View.{view}
use Rattle.ct_codec.specs.declared.refusal.Refusal.{Refusal}
use Rattle.ct_codec.specs.declared.refusal.Refusal.TheVariants.{Memory}
use Rattle.json_lines.proofs.Values.{value_is}
use Rattle.ct_lines.proofs.reading.read_line.Goals as goal

err_fits : {A : Type 0} (r : Result A Refusal) (n m : ℕ) → n ≤ m → IfErr r (λ e. e ≡ Memory → n ≤ m)
err_fits (Ok x) n m fits = tt
err_fits (Err e) n m fits = λ _. fits

pub returns-in_err-request-clause-memory : goal.returns-in_err-request-clause-memory
returns-in_err-request-clause-memory c =
    let line = c.args.line.now in
    let value = value_is 1048576 line (view c.in-Some.value) (sym c.in_ok-value.ensures.value ∙ ap (option_map view) c.in-Some.is) in
    err_fits c.from_residual-in_err-request.result (length line) 1048576 value.0
