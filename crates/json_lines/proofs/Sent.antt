-- The part of some bytes that was sent, step by step.
use Rattle.std.proofs.Common.{◌≡◌, ◌<◌, ◌+◌, ℕ, List, [], ◌++◌, length, take, drop, Option, Bool, true, false, refl, sym, ap, ◌∙◌, arith, append-nil}
use Rattle.std.proofs.Common.{append_assoc, length-append, take-append-drop}
use Rattle.std.proofs.lemmas.List.{take_at}
use Rattle.std.specs.Io.KnownBytes.{Appends, Keeps}
use Rattle.std.proofs.KnownBytes.{Appends-trans, Appends-kept}
use Rattle.json_lines.specs.Sends.{SendsSome}

-- some of the bytes are sent, and `rest` is left
abbrev pub IsSending : Option (List ℕ) → Option (List ℕ) → List ℕ → List ℕ → Type 0
IsSending old new bytes rest = (sent : List ℕ) × (bytes ≡ sent ++ rest) × Appends old new sent

pub sending_more : (a b c : Option (List ℕ)) (bytes rest left : List ℕ) (n : ℕ) → IsSending a b bytes rest → Appends b c (take n rest)
    → left ≡ drop n rest → IsSending a c bytes left
sending_more a b c bytes rest left n s w e = (
  s.0 ++ take n rest,
  s.1 ∙ ap (λ l. s.0 ++ l) (sym (take-append-drop n rest)) ∙ sym (append_assoc s.0 (take n rest) (drop n rest)) ∙ ap (λ l. (s.0 ++ take n rest) ++ l) (sym e),
  Appends-trans a b c s.0 (take n rest) s.2 w,
)

pub sending_stops : (a b : Option (List ℕ)) (bytes rest : List ℕ) → IsSending a b bytes rest → 0 < length rest → (n : ℕ) × (n < length bytes)
    × Appends a b (take n bytes)
sending_stops a b bytes rest s h =
    let size : length bytes ≡ length s.0 + length rest = ap length s.1 ∙ length-append s.0 rest in
    let front : take (length s.0) bytes ≡ s.0 = ap (λ l. take (length s.0) l) s.1 ∙ take_at s.0 rest (length s.0) refl in
    (length s.0, omega (arith, size), rw front s.2)

pub sending_kept : (a b c : Option (List ℕ)) (bytes rest : List ℕ) → IsSending a b bytes rest → Keeps b c → IsSending a c bytes rest
sending_kept a b c bytes rest s k = (s.0, s.1, Appends-kept a b c s.0 s.2 k)

sends_all : (old new : Option (List ℕ)) (bytes : List ℕ) → Appends old new bytes → SendsSome old new bytes
sends_all old new bytes a = (bytes, ([], sym (append-nil bytes)), a)

-- the bytes that were sent: all of them if `whole` is true, and otherwise some
pub sent_some : (whole : Bool) (old new : Option (List ℕ)) (bytes : List ℕ) → (whole ≡ true → Appends old new bytes)
    → (whole ≡ false → (n : ℕ) × (n < length bytes) × Appends old new (take n bytes)) → SendsSome old new bytes
sent_some true old new bytes all some = sends_all old new bytes (all refl)
sent_some false old new bytes all some = let s = some refl in (take s.0 bytes, (drop s.0 bytes, sym (take-append-drop s.0 bytes)), s.2)
