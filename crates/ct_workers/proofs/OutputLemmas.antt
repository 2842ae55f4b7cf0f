-- The written output, piece by piece.
use Rattle.std.proofs.Common.{◌≡◌, ◌<◌, ◌≤◌, ◌+◌, ℕ, List, [], ◌∷◌, ◌++◌, length, map, take, drop, get_or, refl, sym, ap, subst, ◌∙◌, append-nil, inl, inr, arith}
use Rattle.std.proofs.Common.{append_assoc, length-append, take_all, take-append-drop}
use Rattle.std.proofs.lemmas.List.{drop_at, map-append, take_at, take_more}
use Rattle.std.proofs.lemmas.List.Folds.{concat-append}
use Rattle.std.specs.Prelude.{Option, Result, Ok, Err, OnErr, IfErr}
use Rattle.std.specs.List.{AllByRecursion, AllZip, concat, filter_map, flat_map}
use Rattle.std.specs.Io.KnownBytes.{Appends, Keeps}
use Rattle.ct_core.specs.Settlement.{Log}
use Rattle.ct_core.proofs.CoreLemmas.{Begins-refl}
use Rattle.ct_house.specs.House.{HouseState, FrontView}
use Rattle.ct_lines.specs.Asked.{by_frozen}
use Rattle.ct_lines.specs.Frozen.{frozen_replies, frozen_reply, frozen_text}
use Rattle.ct_lines.specs.ReplyText.{reply_line}
use Rattle.ct_lines.specs.Requests.{frozen_asked}
use Rattle.ct_lines.specs.Serving.{reply_if, IsCutOff, IsShort}
use Rattle.ct_lines.specs.declared.request.FrozenRequest.{FrozenRequest}
use Rattle.ct_lines.proofs.Asking.{asked_line}
use Rattle.ct_lines.proofs.ByLines.{replies_by_lines}
use Rattle.ct_lines.specs.declared.plan.Shift.{Shift}
use Rattle.ct_lines.specs.declared.plan.Work.{Work}
use Rattle.ct_lines.specs.declared.plan.Plan.{Plan}
use Rattle.ct_lines.specs.declared.run_fault.Fault.{Fault}
use Rattle.ct_workers.specs.Output.{IsFrozenFault}
use Rattle.ct_workers.specs.Output.{request_reply, AreFrozenLines, IsClosed, SomeReplies, WritesAll, WritesSome, log_begun}
use Rattle.ct_workers.specs.Parties.{Parties}
use Rattle.ct_lines.specs.Tasks.{IsFrozenLine}
use Rattle.ct_lines.specs.Plans.{IsPlanOf}
use Rattle.ct_workers.specs.Shifts.{PartiesServe}
use Rattle.ct_lines.specs.Tasks.{Step, does, ends_shift, for_front, for_frozen, for_operator}
use Rattle.ct_lines.specs.Steps.{frozen_line, frozen_lines, AreWhole, IsWholeLine}
use Rattle.std.proofs.KnownBytes.{Appends-trans, Appends-kept}

-- a fact about the error, together with a fact that holds if there is an error
pub if_err_both : {T E : Type 0} (P : E → Type 0) (Q : Type 0) (R : E → Type 0) (r : Result T E) → ((e : E) → P e → Q → R e) → IfErr r P → OnErr r Q → IfErr r R
if_err_both P Q R (Ok o) f p q = tt
if_err_both P Q R (Err e) f p q = f e p q

-- all replies: the parties' replies, followed by those of the closed log
pub writes_all : (start : Parties) (shifts : List Shift) (last : Work) (lines : List ℕ) (close_at : ℕ) (old mid new : Option (List ℕ))
    (sequencer : HouseState) (after : List FrontView)
    (text : List ℕ) (log : Log) → PartiesServe start shifts last sequencer after text → IsClosed sequencer after close_at log → Appends old mid text
    → Appends mid new (frozen_text log lines)
    → WritesAll start shifts last lines close_at old new
writes_all start shifts last lines close_at old mid new sequencer after text log served closed first second =
    record {
      sequencer = sequencer;
      after = after;
      text = text;
      log = log;
      served = served;
      closed = closed;
      written =
          Appends-trans old mid new text (frozen_text log lines) first second;
    }

pub writes_last : (start : Parties) (shifts : List Shift) (last : Work) (lines : List ℕ) (close_at : ℕ) (old mid new : Option (List ℕ))
    (sequencer : HouseState) (after : List FrontView)
    (text : List ℕ) (log : Log) (f : Fault) → PartiesServe start shifts last sequencer after text → IsClosed sequencer after close_at log
    → Appends old mid text → IsFrozenFault f
    → (written : List ℕ) × SomeReplies log lines written × Appends mid new written → WritesSome start shifts last lines close_at f old new
writes_last start shifts last lines close_at old mid new sequencer after text log f served closed first fault (written, some, second) =
    log_begun sequencer after text log written fault served closed some (Appends-trans old mid new text written first second)

-- the closed log's reply to a line that is this request
reply_to : (log : Log) (r : FrozenRequest) (line : List ℕ) → IsFrozenLine r line → frozen_reply log line ≡ request_reply log r
unfolding frozen_reply
reply_to log r line is = ap reply_line (sym (asked_line log line (by_frozen (frozen_asked r)) is))

reply_some : (reply : List ℕ → List ℕ) (line : List ℕ) → 0 < length line → reply_if reply line ≡ reply line ∷ []
reply_some reply [] some = absurd (omega (arith, some))
reply_some reply (b ∷ bs) some = refl

-- the replies to lines that are these requests
frozen_replied : (log : Log) (rs : List FrozenRequest) (bytes : List ℕ) → AreFrozenLines rs bytes → frozen_replies log bytes ≡ map (request_reply log) rs
frozen_replied log rs bytes (lines, each, whole, text) = ap (frozen_replies log) text ∙ go rs lines each whole
  where
    go : (rs : List FrozenRequest) (lines : List (List ℕ)) → AllZip IsFrozenLine rs lines → AllByRecursion IsWholeLine lines
        → frozen_replies log (flat_map (λ line. line ++ 10 ∷ []) lines) ≡ map (request_reply log) rs
    go [] [] each whole = refl
    go [] (l ∷ ls) each whole = absurd each
    go (r ∷ rs) [] each whole = absurd each
    go (r ∷ rs) (l ∷ ls) each whole =
        let rest = flat_map (λ line. line ++ 10 ∷ []) ls in
        ap (frozen_replies log) (append_assoc l (10 ∷ []) rest) ∙ replies_by_lines log l rest whole.0.1
        ∙ ap (λ (ts : List (List ℕ)). ts ++ frozen_replies log rest) (reply_some (frozen_reply log) l whole.0.0 ∙ ap (λ (t : List ℕ). t ∷ []) (reply_to log r l each.0))
        ∙ ap (λ (ts : List (List ℕ)). request_reply log r ∷ ts) (go rs ls each.1 whole.1)

-- all of the closed log's replies were written
pub frozen_all : (log : Log) (rs : List FrozenRequest) (i : ℕ) (lines : List ℕ) (old mid new : Option (List ℕ)) → length rs ≤ i → AreFrozenLines rs lines
    → Appends old mid (concat (map (request_reply log) (take i rs))) → Keeps mid new → Appends old new (frozen_text log lines)
frozen_all log rs i lines old mid new done are written k =
    let all : map (request_reply log) (take i rs) ≡ frozen_replies log lines =
    ap (map (request_reply log)) (take_all i rs done) ∙ sym (frozen_replied log rs lines are) in
    subst (λ (ts : List (List ℕ)). Appends old new (concat ts)) all (Appends-kept old mid new (concat (map (request_reply log) (take i rs))) written k)

pub frozen_whole : (log : Log) (lines : List ℕ) (old new : Option (List ℕ)) → Appends old new (frozen_text log lines) → (written : List ℕ)
    × SomeReplies log lines written × Appends old new written
frozen_whole log lines old new sent = (frozen_text log lines, inl refl, sent)

-- one more reply
pub replies_more : (log : Log) (rs : List FrozenRequest) (i : ℕ) (r : FrozenRequest) (old mid new : Option (List ℕ)) → i < length rs → r ≡ get_or rs i r
    → Appends old mid (concat (map (request_reply log) (take i rs))) → Appends mid new (request_reply log r)
    → Appends old new (concat (map (request_reply log) (take (i + 1) rs)))
replies_more log rs i r old mid new inside is before one =
    let f = request_reply log in
    let more : take (i + 1) rs ≡ take i rs ++ r ∷ [] = take_more rs i r inside ∙ ap (λ (x : FrozenRequest). take i rs ++ x ∷ []) (sym is) in
    let text : concat (map f (take (i + 1) rs)) ≡ concat (map f (take i rs)) ++ f r =
    ap (λ (l : List FrozenRequest). concat (map f l)) more ∙ ap concat (map-append f (take i rs) (r ∷ [])) ∙ concat-append (map f (take i rs)) (f r ∷ [])
    ∙ ap (λ (l : List ℕ). concat (map f (take i rs)) ++ l) (append-nil (f r)) in
    subst (λ (l : List ℕ). Appends old new l) (sym text) (Appends-trans old mid new (concat (map f (take i rs))) (f r) before one)

short_on : (next text : List ℕ) (texts : List (List ℕ)) → IsShort next (text ∷ []) → IsShort next (text ∷ texts)
short_on [] text texts short = tt
short_on (b ∷ bs) text texts short = short

-- whole texts, and a proper prefix of the next
cut_at : (whole later : List (List ℕ)) (next : List ℕ) → IsShort next later → IsCutOff (whole ++ later) (concat whole ++ next) (length whole)
cut_at whole later next short =
    let size = length-append whole later in
    record {
      within = omega (arith, size);
      next = next;
      order = ap (λ (l : List (List ℕ)). concat l ++ next) (sym (take_at whole later (length whole) refl));
      short = subst (λ (l : List (List ℕ)). IsShort next l) (sym (drop_at whole later (length whole) refl)) short;
    }

-- some of the closed log's replies were written
pub replies_cut : (log : Log) (rs : List FrozenRequest) (i : ℕ) (r : FrozenRequest) (lines next : List ℕ) (old mid new : Option (List ℕ)) → i < length rs
    → r ≡ get_or rs i r → AreFrozenLines rs lines → Appends old mid (concat (map (request_reply log) (take i rs)))
    → IsShort next (request_reply log r ∷ []) → Appends mid new next → (written : List ℕ) × SomeReplies log lines written × Appends old new written
replies_cut log rs i r lines next old mid new inside is are before short after =
    let f = request_reply log in
    let rest = drop (i + 1) rs in
    let order : rs ≡ take i rs ++ r ∷ rest =
    sym (take-append-drop (i + 1) rs)
    ∙ ap (λ (l : List FrozenRequest). l ++ rest) (take_more rs i r inside ∙ ap (λ (x : FrozenRequest). take i rs ++ x ∷ []) (sym is))
    ∙ append_assoc (take i rs) (r ∷ []) rest in
    let whole = map f (take i rs) in
    let later = f r ∷ map f rest in
    let texts : frozen_replies log lines ≡ whole ++ later = frozen_replied log rs lines are ∙ ap (map f) order ∙ map-append f (take i rs) (r ∷ rest) in (
      concat whole ++ next,
      inr (
        lines,
        length whole,
        Begins-refl lines,
        subst (λ (l : List (List ℕ)). IsCutOff l (concat whole ++ next) (length whole)) (sym texts) (cut_at whole later next (short_on next (f r) (map f rest) short)),
      ),
      Appends-trans old mid new (concat whole) next before after,
    )

-- the lines of a plan's requests are those of its steps
pub plan_lines : (n : ℕ) (p : Plan) (ss : List Step) → IsPlanOf n p ss → AreWhole ss → AreFrozenLines p.frozen.items (frozen_lines ss)
plan_lines n p ss i whole = (filter_map frozen_line ss, i.frozen, whole, text ss)
  where
    text : (l : List Step) → frozen_lines l ≡ flat_map (λ line. line ++ 10 ∷ []) (filter_map frozen_line l)
    text [] = refl
    text (does (for_front k r) ∷ l) = text l
    text (does (for_operator t) ∷ l) = text l
    text (does (for_frozen line) ∷ l) = ap (λ (xs : List ℕ). (line ++ 10 ∷ []) ++ xs) (text l)
    text (ends_shift now ∷ l) = text l
