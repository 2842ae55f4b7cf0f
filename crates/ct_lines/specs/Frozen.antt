-- The replies of the frozen log to its input.
use Rattle.std.specs.Prelude.{◌≡◌, ◌⊎◌, Bool, true, false, ◌||◌, ℕ, List, [], ◌∷◌, ◌++◌, length, Option, Some, None, ◌==◌}
use Rattle.std.specs.Prelude.{if◌then◌else◌, Result, MatchResult}
use Rattle.std.specs.List.{concat}
use Rattle.ct_codec.specs.declared.refusal.Refusal.{Refusal}
use Rattle.ct_codec.specs.declared.refusal.Refusal.TheVariants.{Memory, BadLine}
use Rattle.ct_core.specs.declared.query.Reply.{Reply}
use Rattle.ct_core.specs.Settlement.{Log}
use Rattle.ct_core.specs.Answers.{answer}
use Rattle.ct_core.specs.Replies.{Answer, proof_holds, a_collision, refused, shown, takes_memory}
use Rattle.ct_lines.specs.Asked.{Asked, by_front, by_operator, by_frozen, FrozenAsked, frozen_query, frozen_audit, request_of}
use Rattle.json_lines.specs.Lines.{lines_of}
use Rattle.ct_lines.specs.ReplyText.{reply_line}
use Rattle.ct_lines.specs.Verdicts.{audit_answer}

-- the result is this answer, or memory was refused
abbrev pub Answers : Result Reply Refusal → Answer → Type 0
Answers result a = MatchResult result (λ reply. shown reply ≡ a) (λ e. (e ≡ Memory) ⊎ (refused e ≡ a))

-- whether it is the verdict on an accepted proof
abbrev pub is_verdict : Answer → Bool
is_verdict proof_holds = true
is_verdict (a_collision left right) = true
is_verdict a = false

-- whether an answer takes memory before it is written: a proof, a path, entries, or the verdict on an accepted proof, which is compared
-- with the log's own
abbrev pub is_built : Answer → Bool
is_built a = takes_memory a || is_verdict a

-- the same, and memory is refused only if the answer takes memory before it is written
abbrev pub AnswersBuilt : Result Reply Refusal → Answer → Type 0
AnswersBuilt result a = MatchResult result (λ reply. shown reply ≡ a) (λ e. ((e ≡ Memory) × (is_built a ≡ true)) ⊎ (refused e ≡ a))

-- the answer to a reader of the frozen log
abbrev pub frozen_answer : Log → FrozenAsked → Answer
frozen_answer log (frozen_query q) = answer log q
frozen_answer log (frozen_audit a) = audit_answer log a

-- the answer to a request; a request of a front or of the operator gets bad-line
abbrev pub asked_answer : Log → Asked → Answer
asked_answer log (by_front n r) = refused BadLine
asked_answer log (by_operator r) = refused BadLine
asked_answer log (by_frozen r) = frozen_answer log r

-- the answer to a line; a line that is no request gets bad-line
abbrev pub answer_if : Log → Option Asked → Answer
answer_if log None = refused BadLine
answer_if log (Some a) = asked_answer log a

-- the closed log's answer to a line
abbrev pub line_answer : Log → List ℕ → Answer
line_answer log line = answer_if log (request_of line)

-- the closed log's reply to a line: the text of its answer
unfoldable pub frozen_reply : Log → List ℕ → List ℕ
frozen_reply log line = reply_line (line_answer log line)

-- the replies to the lines that are not empty
abbrev pub replies : (List ℕ → List ℕ) → List (List ℕ) → List (List ℕ)
replies reply [] = []
replies reply ([] ∷ lines) = replies reply lines
replies reply ((b ∷ bs) ∷ lines) = reply (b ∷ bs) ∷ replies reply lines

-- the replies of the closed log to the lines of an input, in order: one to each line that is not empty
abbrev pub frozen_replies : Log → List ℕ → List (List ℕ)
frozen_replies log input = replies (frozen_reply log) (lines_of input)

-- the whole output of the closed log for an input: the concatenation of these replies
abbrev pub frozen_text : Log → List ℕ → List ℕ
frozen_text log input = concat (frozen_replies log input)
