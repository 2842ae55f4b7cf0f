-- The JSON value of a line.
use Rattle.std.proofs.Common.{◌≡◌, ◌<◌, ◌≤◌, ◌∙◌, ℕ, List, length, Option, Some, None, Result, Ok, Err, Bool, true, false, ◌&&◌, nat_le, cond, refl, sym, ap, arith}
use Rattle.std.specs.Prelude.{option_map, IfOk, MatchResult}
use Rattle.std.specs.Str.{is_utf8, IsUtf8}
use Rattle.std.specs.declared.alloc.AllocError.{AllocError}
use Rattle.std.proofs.lemmas.Bool.Decides.{nat_tests}
use Rattle.std.proofs.lemmas.Option.{none-some}
use Rattle.std.proofs.lemmas.Str.{IsUtf8-from_is_utf8, is_utf8-from_IsUtf8}
use Rattle.serde_json.specs.Data.{Data}
use Rattle.serde_json.specs.Read.{read}
use Rattle.serde_json.specs.View.{view}
use Rattle.serde_json.specs.declared.value.Value.{Value}
use Rattle.json_lines.specs.Values.{value_of_line}

pub value_read : (longest : ℕ) (line : List ℕ) (d : Data) → length line ≤ longest → IsUtf8 line → read line ≡ Some d → Some d ≡ value_of_line longest line
unfolding value_of_line
value_read longest line d few text is =
    let fits : nat_le (length line) longest ≡ true = grind (arith, nat_tests, few) in
    sym (ap (λ t. cond (t && is_utf8 line) (read line) None) fits ∙ ap (λ t. cond t (read line) None) (is_utf8-from_IsUtf8 line text) ∙ is)

pub value_long : (longest : ℕ) (line : List ℕ) → longest < length line → None ≡ value_of_line longest line
unfolding value_of_line
value_long longest line more =
    let long : nat_le (length line) longest ≡ false = grind (arith, nat_tests, more) in
    sym (ap (λ t. cond (t && is_utf8 line) (read line) None) long)

unless : (t u : Bool) (x : Option Data) → (u ≡ true → x ≡ None) → None ≡ cond (t && u) x None
unless true true x h = sym (h refl)
unless true false x h = refl
unless false u x h = refl

unread : (longest : ℕ) (line : List ℕ) → (IsUtf8 line → read line ≡ None) → None ≡ value_of_line longest line
unfolding value_of_line
unread longest line none = unless (nat_le (length line) longest) (is_utf8 line) (read line) (λ e. none (IsUtf8-from_is_utf8 line e))

-- a line from which no value is read, unless memory was refused
pub value_unread : (longest : ℕ) (line : List ℕ) (r : Result (Option Value) AllocError) (P : Type 0) → MatchResult r (λ o. (o ≡ None) × (P → ⊥)) (λ _. P)
    → ((P → ⊥) → IsUtf8 line → read line ≡ None)
    → IfOk r (λ o. option_map view o ≡ value_of_line longest line)
value_unread longest line (Ok o) P (e, other) none = ap (option_map view) e ∙ unread longest line (none other)
value_unread longest line (Err x) P is none = tt

both_true : (t u : Bool) (x : Option Data) (d : Data) → cond (t && u) x None ≡ Some d → (t ≡ true) × (u ≡ true) × (x ≡ Some d)
both_true true true x d e = (refl, refl, e)
both_true true false x d e = absurd (none-some d e)
both_true false u x d e = absurd (none-some d e)

-- facts about a line that is a value
pub value_is : (longest : ℕ) (line : List ℕ) (d : Data) → value_of_line longest line ≡ Some d → (length line ≤ longest) × IsUtf8 line × (read line ≡ Some d)
unfolding value_of_line
value_is longest line d e =
    let b = both_true (nat_le (length line) longest) (is_utf8 line) (read line) d e in
    (grind (arith, nat_tests, b.0), IsUtf8-from_is_utf8 line b.1, b.2)

-- no value is read from a line that is not a value
pub value_none : (longest : ℕ) (line : List ℕ) → value_of_line longest line ≡ None → length line ≤ longest → IsUtf8 line → read line ≡ None
value_none longest line none few text = go (read line) refl
  where
    go : (o : Option Data) → read line ≡ o → read line ≡ None
    go None e = e
    go (Some d) e = absurd (none-some d (sym none ∙ sym (value_read longest line d few text e)))
