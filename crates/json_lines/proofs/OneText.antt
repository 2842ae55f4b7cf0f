-- The laws of the lines.
use Rattle.std.proofs.Common.{◌≡◌, Some, Result, Ok, Err, refl, ap}
use Rattle.std.proofs.lemmas.Option.{same_Some, none-some}
use Rattle.std.specs.Result.{result_ok}
use Rattle.base64.specs.Engines.{standard}
use Rattle.base64.specs.GeneralPurpose.{IsStrict, decode_of}
use Rattle.base64.proofs.EngineFacts.{decode_of_iff}
use Rattle.json_lines.specs.Fields.{bytes_of}
use Rattle.json_lines.specs.Values.{base64_text}
use Rattle.json_lines.specs.Laws.{BytesReadBack}

is_strict : IsStrict standard
is_strict = (refl, refl)

ok_of : {A B : Type 0} (r : Result A B) (x : A) → result_ok r ≡ Some x → r ≡ Ok x
ok_of (Ok y) x e = ap Ok (same_Some y x e)
ok_of (Err f) x e = absurd (none-some x e)

pub bytes_read_back : BytesReadBack
unfolding bytes_of base64_text
bytes_read_back text b is_text are_bytes =
    let iff = decode_of_iff standard text b is_strict is_text are_bytes in
    (λ e. iff.0 (ok_of (decode_of standard text) b e), λ e. ap result_ok (iff.1 e))
