use Rattle.std.proofs.Common.{◌≡◌, ◌∙◌, ℕ, List, sym, ap}
use Rattle.std.proofs.lemmas.Bool.{both_ways}
use Rattle.std.proofs.lemmas.Slice.Eq.{bytes_eq-Decides}
use Rattle.std.specs.Prelude.{Ok}
use Rattle.std.specs.Result.{is_err}
use Rattle.hex.specs.Hex.{decode_sized, encode_lower}
use Rattle.hex.proofs.HexLemmas.{decode_sized-encode_lower}
use Rattle.ct_step.proofs.StateLines.{decoded, on_ok}
use Rattle.ct_step.proofs.line.bytes_of_digits.Goals as goal

pub returns-then-is_err : goal.returns-then-is_err
returns-then-is_err c = λ b l h e.
    let d : decode_sized c.args.digits.now 144 ≡ Ok b = ap (λ (x : List ℕ). decode_sized x 144) (sym e) ∙ decode_sized-encode_lower b 144 l h in
    let q = decoded (decode_sized c.args.digits.now 144) b c.decode_to_slice.new.out c.decode_to_slice.result d c.decode_to_slice.ensures.value in
    both_ways c.is_err.result (c.is_err.ensures.value ∙ ap is_err q.0) c.if-is_err.true

pub returns-else-eq : goal.returns-else-eq
returns-else-eq c = λ b l h e.
    let d : decode_sized c.args.digits.now 144 ≡ Ok b = ap (λ (x : List ℕ). decode_sized x 144) (sym e) ∙ decode_sized-encode_lower b 144 l h in
    let q = decoded (decode_sized c.args.digits.now 144) b c.decode_to_slice.new.out c.decode_to_slice.result d c.decode_to_slice.ensures.value in
    let w = on_ok c.encode_to_slice.result (c.encode_to_slice.new.output ≡ encode_lower c.decode_to_slice.new.out)
    (sym c.is_err-2.ensures.value ∙ c.if-is_err-2.false) c.encode_to_slice.ensures.written in
    let same : c.as_slice.result.now ≡ c.args.digits.now = c.as_slice.ensures ∙ w ∙ ap encode_lower q.1 ∙ e in
    both_ways c.eq.result c.if-eq.false (c.eq.ensures ∙ (bytes_eq-Decides c.as_slice.result.now c.args.digits.now).1 same)
