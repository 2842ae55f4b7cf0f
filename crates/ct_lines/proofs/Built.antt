-- The answers that take memory before they are written.
use Rattle.std.proofs.Common.{inl, inr, ◌≡◌, ℕ, List, Option, Some, None, Result, Ok, Err, true, cond, refl, sym, ap, ◌∙◌}
use Rattle.std.specs.Prelude.{IfErr, MatchResult, not, ◌||◌, ◌⊎◌}
use Rattle.sha2.specs.Sha256.{sha256}
use Rattle.ct_verify.specs.Evidence.{evid}
use Rattle.ct_codec.specs.declared.refusal.Refusal.{Refusal}
use Rattle.ct_codec.specs.declared.refusal.Refusal.TheVariants.{Memory, UnknownSize}
use Rattle.ct_core.specs.declared.query.Reply.{Reply}
use Rattle.ct_core.specs.Settlement.{Log}
use Rattle.ct_core.specs.Answers.{is_size, first_leaves}
use Rattle.ct_core.specs.Replies.{Answer, proof_refused, refused, shown, takes_memory}
use Rattle.ct_lines.specs.Asked.{audit}
use Rattle.ct_lines.specs.Verdicts.{is_accepted, verdict_on, verdict, audit_answer}
use Rattle.ct_lines.specs.Frozen.{is_verdict, is_built, Answers, AnswersBuilt}

verdict_built : (D : List (List ℕ)) (leaf : List ℕ) (m : ℕ) (p : List (List ℕ)) → is_accepted D leaf m p ≡ true → is_built (verdict D leaf m p) ≡ true
unfolding verdict
verdict_built D leaf m p accepted =
    ap (λ t. is_built (cond t (verdict_on (evid sha256 D leaf m p)) proof_refused)) accepted ∙ go (evid sha256 D leaf m p)
  where
    go : (o : Option (List ℕ × List ℕ)) → is_built (verdict_on o) ≡ true
    go None = refl
    go (Some s) = refl

-- an audit of an accepted path against a published size
pub audit_built : (log : Log) (leaf : List ℕ) (m n : ℕ) (p : List (List ℕ)) → is_size log n ≡ true → is_accepted (first_leaves log n) leaf m p ≡ true
    → is_built (audit_answer log (audit leaf m n p)) ≡ true
audit_built log leaf m n p sized accepted =
    ap (λ t. is_built (cond (not t) (refused UnknownSize) (verdict (first_leaves log n) leaf m p))) sized ∙ verdict_built (first_leaves log n) leaf m p accepted

pub audit_answers : (log : Log) (leaf : List ℕ) (m n : ℕ) (p D : List (List ℕ)) (r : Result Reply Refusal) → is_size log n ≡ true
    → is_accepted (first_leaves log n) leaf m p ≡ true
    → D ≡ first_leaves log n → MatchResult r (λ x. shown x ≡ verdict D leaf m p) (λ e. e ≡ Memory) → AnswersBuilt r (audit_answer log (audit leaf m n p))
audit_answers log leaf m n p D (Ok x) sized accepted same said =
    said ∙ ap (λ d. verdict d leaf m p) same ∙ sym (ap (λ t. cond (not t) (refused UnknownSize) (verdict (first_leaves log n) leaf m p)) sized)
audit_answers log leaf m n p D (Err e) sized accepted same said = inl (said, audit_built log leaf m n p sized accepted)

-- a query of the log
pub query_answers : (r : Result Reply Refusal) (a : Answer) → MatchResult r (λ x. shown x ≡ a) (λ e. (e ≡ Memory) ⊎ (refused e ≡ a))
    → IfErr r (λ e. e ≡ Memory → takes_memory a ≡ true) → AnswersBuilt r a
query_answers (Ok x) a h taken = h
query_answers (Err e) a (inl h) taken = inl (h, ap (λ t. t || is_verdict a) (taken h))
query_answers (Err e) a (inr h) taken = inr h

pub answers_built : (r : Result Reply Refusal) (a : Answer) → AnswersBuilt r a → Answers r a
answers_built (Ok x) a h = h
answers_built (Err e) a (inl h) = inl h.0
answers_built (Err e) a (inr h) = inr h
