-- The request in a line, and the answer to it.
use Rattle.std.proofs.Common.{inl, inr, ◌≡◌, ◌<◌, ◌≤◌, ℕ, List, [], ◌∷◌, length, Vec, Global, Option, Some, None, Result, Ok, Err}
use Rattle.std.proofs.Common.{refl, sym, ap, subst, ◌∙◌, arith, take, take_all}
use Rattle.std.proofs.lemmas.Bool.{cases_lt}
use Rattle.std.proofs.lemmas.List.{length-take}
use Rattle.std.specs.Prelude.{◌≢◌, option_and_then, IfOk, MatchResult}
use Rattle.std.specs.declared.alloc.AllocError.{AllocError}
use Rattle.std.proofs.lemmas.Option.{none-some}
use Rattle.serde_json.specs.Data.{Data}
use Rattle.json_lines.specs.Values.{value_of_line}
use Rattle.ct_lines.specs.Asked.{Asked, by_frozen, FrozenAsked, IsRequest, asked_in, request_of}
use Rattle.ct_codec.specs.declared.refusal.Refusal.{Refusal}
use Rattle.ct_codec.specs.declared.refusal.Refusal.TheVariants.{Memory, BadLine}
use Rattle.ct_core.specs.declared.query.Reply.{Reply}
use Rattle.ct_core.specs.Settlement.{Log}
use Rattle.ct_core.specs.Replies.{Answer, refused}
use Rattle.ct_lines.specs.ReplyText.{answered, reply_line}
use Rattle.ct_lines.specs.Serving.{reply_if}
use Rattle.ct_lines.specs.Frozen.{asked_answer, answer_if, frozen_answer, line_answer, Answers, frozen_reply}
use Rattle.json_lines.proofs.Values.{value_is, value_long}

-- a line that is too long is no request
pub too_long : (line : List ℕ) → 1048576 < length line → request_of line ≡ None
unfolding request_of
too_long line h = ap (option_and_then asked_in) (sym (value_long 1048576 line h))

-- a request is not too long
pub request_fits : (line : List ℕ) (a : Asked) → IsRequest line a → length line ≤ 1048576
unfolding request_of
request_fits line a is = go (value_of_line 1048576 line) refl is
  where
    go : (o : Option Data) → value_of_line 1048576 line ≡ o → option_and_then asked_in o ≡ Some a → length line ≤ 1048576
    go None e p = absurd (none-some a p)
    go (Some d) e p = (value_is 1048576 line d e).0

no_request : (line : List ℕ) → ((a : Asked) → IsRequest line a → ⊥) → request_of line ≡ None
no_request line h = go (request_of line) refl
  where
    go : (o : Option Asked) → request_of line ≡ o → request_of line ≡ None
    go None e = e
    go (Some a) e = absurd (h a e)

-- the answer to a line that is this request
pub asked_line : (log : Log) (line : List ℕ) (a : Asked) → IsRequest line a → asked_answer log a ≡ line_answer log line
asked_line log line a r = sym (ap (answer_if log) r)

pub bad_line : (log : Log) (line : List ℕ) → ((a : Asked) → IsRequest line a → ⊥) → refused BadLine ≡ line_answer log line
bad_line log line h = sym (ap (answer_if log) (no_request line h))

-- the text of the answer, if memory was not refused
text_as : (a : Answer) (text : List ℕ) (r : Result Reply Refusal) → Answers r a → (r ≡ Err Memory → ⊥) → text ≡ reply_line (answered r) → text ≡ reply_line a
text_as a text (Ok x) is h e = e ∙ ap reply_line is
text_as a text (Err f) (inl same) h e = absurd (h (ap Err same))
text_as a text (Err f) (inr is) h e = e ∙ ap reply_line is

text_ok : (a : Answer) (t : Result (Vec ℕ Global) AllocError) (r : Result Reply Refusal) → IfOk t (λ b. b.items ≡ reply_line (answered r)) → Answers r a
    → (r ≡ Err Memory → ⊥) → IfOk t (λ b. b.items ≡ reply_line a)
text_ok a (Ok b) r e is h = text_as a b.items r is h e
text_ok a (Err f) r e is h = tt

-- the text of an answer that was passed on
pub text_told : (a : Answer) (t : Result (Vec ℕ Global) AllocError) (r told : Result Reply Refusal) (o : Result (Result Reply Refusal) AllocError)
    → o ≡ Ok told → MatchResult o (λ x. (x ≡ r) × (r ≢ Err Memory)) (λ _. r ≡ Err Memory) → IfOk t (λ b. b.items ≡ reply_line (answered told))
    → Answers r a → IfOk t (λ b. b.items ≡ reply_line a)
text_told a t r told o e said text is =
    let same : (told ≡ r) × (r ≢ Err Memory) =
    subst (λ (x : Result (Result Reply Refusal) AllocError). MatchResult x (λ y. (y ≡ r) × (r ≢ Err Memory)) (λ _. r ≡ Err Memory)) e said in
    text_ok a t r (subst (λ (x : Result Reply Refusal). IfOk t (λ b. b.items ≡ reply_line (answered x))) same.0 text) is same.1

-- the reply to a line
pub reply_told : (log : Log) (line : List ℕ) (t : Result (Vec ℕ Global) AllocError) (r told : Result Reply Refusal)
    (o : Result (Result Reply Refusal) AllocError) → o ≡ Ok told
    → MatchResult o (λ x. (x ≡ r) × (r ≢ Err Memory)) (λ _. r ≡ Err Memory) → IfOk t (λ b. b.items ≡ reply_line (answered told))
    → Answers r (line_answer log line)
    → IfOk t (λ b. b.items ≡ frozen_reply log line)
unfolding frozen_reply
reply_told log line t r told o e said text a = text_told (line_answer log line) t r told o e said text a

-- the reply to a request is the reply to each line that is this request
pub reply_of_line : (log : Log) (r : FrozenAsked) (t : Result (Vec ℕ Global) AllocError) → IfOk t (λ b. b.items ≡ reply_line (frozen_answer log r))
    → IfOk t (λ b. (line : List ℕ) → IsRequest line (by_frozen r) → b.items ≡ frozen_reply log line)
unfolding frozen_reply
reply_of_line log r (Ok b) e = λ line is. e ∙ ap reply_line (asked_line log line (by_frozen r) is)
reply_of_line log r (Err f) e = tt

pub reply_too_long : (log : Log) (line : List ℕ) → 1048576 < length line → reply_line (refused BadLine) ≡ frozen_reply log line
unfolding frozen_reply
reply_too_long log line h = ap reply_line (sym (ap (answer_if log) (too_long line h)))

-- the reply to the kept part of a line is the line's reply
reply_kept : (log : Log) (line kept : List ℕ) → kept ≡ take 1048578 line → frozen_reply log kept ≡ frozen_reply log line
reply_kept log line kept is = elim (cases_lt 1048578 (length line)) [
  | inl more ↦
      let long = ap length is ∙ length-take {A = ℕ} 1048578 line in
      sym (reply_too_long log kept (omega (arith, long, more))) ∙ reply_too_long log line (omega (arith, more))
  | inr whole ↦ ap (frozen_reply log) (is ∙ take_all 1048578 line whole)
]

pub kept_replied : (log : Log) (line kept text : List ℕ) → kept ≡ take 1048578 line → 0 < length kept → text ≡ frozen_reply log kept
    → text ∷ [] ≡ reply_if (frozen_reply log) line
kept_replied log [] kept text is some same =
    let long = ap length is ∙ length-take {A = ℕ} 1048578 [] in
    absurd (omega (arith, long, some))
kept_replied log (b ∷ bs) kept text is some same = ap (λ t. t ∷ []) (same ∙ reply_kept log (b ∷ bs) kept is)

pub none_replied : (log : Log) (line kept : List ℕ) → kept ≡ take 1048578 line → length kept ≡ 0 → [] ≡ reply_if (frozen_reply log) line
none_replied log [] kept is none = refl
none_replied log (b ∷ bs) kept is none =
    let long = ap length is ∙ length-take {A = ℕ} 1048578 (b ∷ bs) in
    absurd (omega (arith, long, none))
