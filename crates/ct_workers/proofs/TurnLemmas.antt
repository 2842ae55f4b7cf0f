-- Tasks done in turn, with one more task.
use Rattle.std.proofs.Common.{◌≡◌, ℕ, List, [], ◌∷◌, ◌++◌, length, refl, sym, ap, subst, ◌∙◌, arith, append_assoc, append-nil}
use Rattle.std.specs.List.{flat_map}
use Rattle.ct_core.specs.Replies.{Answer}
use Rattle.ct_lines.specs.ReplyText.{reply_line}
use Rattle.ct_workers.specs.InTurn.{answer_lines, InTurn, Serves}
use Rattle.ct_workers.specs.Serving.{ServesAll, ServesFirst, DoesWithLine}

pub in_turn_more : {State Task Reply : Type 0} (does : State → Task → Reply → State → Type 0) (a m b : State) (ts : List Task) (t : Task) (rs : List Reply)
    (r : Reply) → InTurn does a ts rs m → does m t r b → InTurn does a (ts ++ t ∷ []) (rs ++ r ∷ []) b
in_turn_more does a m b [] t [] r i d = (b, subst (λ s. does s t r b) i d, refl)
in_turn_more does a m b [] t (q ∷ rs) r i d = absurd i
in_turn_more does a m b (u ∷ ts) t [] r i d = absurd i
in_turn_more does a m b (u ∷ ts) t (q ∷ rs) r (n, one, rest) d = (n, one, in_turn_more does n m b ts t rs r rest d)

-- a relation that each task keeps is kept by all tasks
pub in_turn_keeps : {State Task Reply : Type 0} (does : State → Task → Reply → State → Type 0) (on : State → State → Type 0) → ((a : State) → on a a)
    → ((a m b : State) → on a m → on m b → on a b) → ((a b : State) (t : Task) (r : Reply) → does a t r b → on a b)
    → (a b : State) (ts : List Task) (rs : List Reply) → InTurn does a ts rs b → on a b
in_turn_keeps does on nothing both one a b [] [] i = subst (on a) (sym i) (nothing a)
in_turn_keeps does on nothing both one a b [] (r ∷ rs) i = absurd i
in_turn_keeps does on nothing both one a b (t ∷ ts) [] i = absurd i
in_turn_keeps does on nothing both one a b (t ∷ ts) (r ∷ rs) (m, first, rest) =
    both a m b (one a m t r first) (in_turn_keeps does on nothing both one m b ts rs rest)

-- ---- the part of a list that is done, and the rest

-- the next element of the rest
pub cut_here : {A : Type 0} (all done left : List A) (x : A) (rest : List A) → done ++ left ≡ all → left ≡ x ∷ rest → all ≡ done ++ x ∷ rest
cut_here all done left x rest e is = sym e ∙ ap (λ l. done ++ l) is

pub cut_on : {A : Type 0} (all done left : List A) (x : A) (rest : List A) → done ++ left ≡ all → left ≡ x ∷ rest → (done ++ x ∷ []) ++ rest ≡ all
cut_on all done left x rest e is = append_assoc done (x ∷ []) rest ∙ sym (cut_here all done left x rest e is)

pub cut_end : {A : Type 0} (all done left : List A) → done ++ left ≡ all → length left ≡ 0 → done ≡ all
cut_end all done [] e none = sym (append-nil done) ∙ e
cut_end all done (x ∷ left) e none = absurd (omega arith)

-- ---- a party, and the text of its replies

abbrev text_of : List (List ℕ) → List ℕ
text_of rs = flat_map (λ (r : List ℕ). r) rs

text_more : (rs : List (List ℕ)) (r : List ℕ) → text_of (rs ++ r ∷ []) ≡ text_of rs ++ r
text_more [] r = append-nil r
text_more (q ∷ rs) r = ap (λ (l : List ℕ). q ++ l) (text_more rs r) ∙ sym (append_assoc q (text_of rs) r)

module _ {State Task : Type 0} (does : State → Task → List ℕ → State → Type 0) where
  pub serves_none : (a : State) (before : List ℕ) → ServesAll does a [] before a before
  serves_none a before = ([], refl, sym (append-nil before))

  -- one more task
  pub serves_more : (a m b : State) (ts : List Task) (t : Task) (before text reply after : List ℕ) → ServesAll does a ts before m text
      → does m t reply b → after ≡ text ++ reply → ServesAll does a (ts ++ t ∷ []) before b after
  serves_more a m b ts t before text reply after (rs, turns, is) did added = (
    rs ++ reply ∷ [],
    in_turn_more does a m b ts t rs reply turns did,
    added ∙ ap (λ (l : List ℕ). l ++ reply) is ∙ append_assoc before (text_of rs) reply ∙ ap (λ (l : List ℕ). before ++ l) (sym (text_more rs reply)),
  )

  -- there is no reply to the next task
  pub serves_first : (a m : State) (ts done : List Task) (t : Task) (rest : List Task) (before text : List ℕ) → ServesAll does a done before m text
      → ts ≡ done ++ t ∷ rest → ServesFirst does a ts before text
  serves_first a m ts done t rest before text all cut = (done, t ∷ rest, cut, omega arith, (m, all))

-- ---- replies that are the lines of answers

module _ {State Task : Type 0} (does : State → Task → Answer → State → Type 0) (on : State → State → Type 0) where
  with_answers : (a b : State) (ts : List Task) (rs : List (List ℕ)) → InTurn (DoesWithLine does on) a ts rs b
      → (answers : List Answer) × InTurn does a ts answers b × (text_of rs ≡ answer_lines answers)
  with_answers a b [] [] i = ([], i, refl)
  with_answers a b [] (r ∷ rs) i = absurd i
  with_answers a b (t ∷ ts) [] i = absurd i
  with_answers a b (t ∷ ts) (r ∷ rs) (m, one, others) =
      let (answers, done, text) = with_answers m b ts rs others in (
        one.answer ∷ answers,
        (m, one.did, done),
        ap (λ (l : List ℕ). l ++ text_of rs) one.line ∙ ap (λ (l : List ℕ). reply_line one.answer ++ l) text,
      )

  -- the tasks were done in turn, and the lines of their answers follow the text written before
  pub all_served : (a b : State) (ts : List Task) (before text : List ℕ) → ServesAll (DoesWithLine does on) a ts before b text → Serves does a ts before b text
  all_served a b ts before text (rs, turns, is) =
      let (answers, done, lines) = with_answers a b ts rs turns in (answers, done, is ∙ ap (λ (l : List ℕ). before ++ l) lines)

  pub all_went_on : ((a : State) → on a a) → ((a m b : State) → on a m → on m b → on a b) → (a b : State) (ts : List Task) (before text : List ℕ)
      → ServesAll (DoesWithLine does on) a ts before b text → on a b
  all_went_on nothing both a b ts before text (rs, turns, is) = in_turn_keeps (DoesWithLine does on) on nothing both (λ a b t r one. one.went_on) a b ts rs turns
