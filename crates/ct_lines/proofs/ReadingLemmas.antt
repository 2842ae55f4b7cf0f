-- The tasks assigned for the lines that were read.
use Rattle.std.proofs.Common.{◌≡◌, ◌≢◌, ◌<◌, ℕ, List, [], ◌∷◌, ◌++◌, All, length, Option, Some, None, Bool, true, false, cond, inl, inr, refl, sym, ap, subst, ◌∙◌, arith, append_assoc, append-nil}
use Rattle.std.proofs.lemmas.List.Elements.{filter_map-append, recursion_from_All}
use Rattle.std.proofs.lemmas.Option.{same_Some, none-some}
use Rattle.std.specs.Prelude.{nat_lt, IfSome}
use Rattle.std.specs.List.{AllByRecursion, filter_map}
use Rattle.std.specs.Io.BufRead.{drop_through, first_piece}
use Rattle.ct_lines.specs.Asked.{Asked, by_front, by_frozen, by_operator, publish, sequence, shift, shutdown}
use Rattle.json_lines.specs.Lines.{kept_line, lines_of, IsFirstLine, TakesNext}
use Rattle.ct_lines.proofs.Asking.{request_fits}
use Rattle.json_lines.proofs.KeptLines.{whole_or_long}
use Rattle.ct_lines.specs.Plans.{GivesOut, IsPlanOf, LineTaken}
use Rattle.ct_lines.specs.Tasks.{Step, does, for_front, for_operator, step_of, AsksFor}
use Rattle.ct_lines.specs.Steps.{frozen_line, AllAskFor, AreStepsOf, AreWhole, IsWholeLine}
use Rattle.ct_lines.specs.declared.task.OperatorTask.TheVariants.{Sequence, BadLine}
use Rattle.ct_lines.specs.declared.plan.Plan.{Plan}
use Rattle.json_lines.proofs.LinesOf.{first_line_cut}

-- the steps so far, followed by those of the rest, are the input's
abbrev pub LeadsTo : ℕ → List ℕ → List Step → List ℕ → Type 0
LeadsTo fronts input done rest = (left : List Step) → AllAskFor fronts (lines_of rest) left → AllAskFor fronts (lines_of input) (done ++ left)

-- the steps of one line, followed by those of the lines after it
ask_first : (fronts : ℕ) (line : List ℕ) (lines : List (List ℕ)) (one more : List Step) → AllAskFor fronts (line ∷ []) one → AllAskFor fronts lines more
    → AllAskFor fronts (line ∷ lines) (one ++ more)
ask_first fronts [] lines [] more asks rest = rest
ask_first fronts [] lines (s ∷ one) more asks rest = absurd asks
ask_first fronts (b ∷ bs) lines [] more asks rest = absurd asks
ask_first fronts (b ∷ bs) lines (s ∷ []) more asks rest = (asks.0, rest)
ask_first fronts (b ∷ bs) lines (s ∷ t ∷ one) more asks rest = absurd asks.1

pub asked_once : (fronts : ℕ) (line : List ℕ) (s : Step) → 0 < length line → AsksFor fronts line s → AllAskFor fronts (line ∷ []) (s ∷ [])
asked_once fronts [] s some asks = absurd (omega arith)
asked_once fronts (b ∷ bs) s some asks = (asks, tt)

-- two lines that are too long for a request have the same step
asks_long : (fronts : ℕ) (a b : List ℕ) (s : Step) → 1048576 < length a → 1048576 < length b → AsksFor fronts a s → AsksFor fronts b s
asks_long fronts a b s long_a long_b (inl (r, is, e)) = absurd (omega (arith, long_a, request_fits a r is))
asks_long fronts a b s long_a long_b (inr (bad, none)) = inr (bad, λ r is. omega (arith, long_b, request_fits b r is))

asks_alike : (fronts : ℕ) (a b : List ℕ) (ss : List Step) → 1048576 < length a → 1048576 < length b → AllAskFor fronts (a ∷ []) ss
    → AllAskFor fronts (b ∷ []) ss
asks_alike fronts [] b ss long_a long_b p = absurd (omega (arith, long_a))
asks_alike fronts (x ∷ a) [] ss long_a long_b p = absurd (omega (arith, long_b))
asks_alike fronts (x ∷ a) (y ∷ b) [] long_a long_b p = absurd p
asks_alike fronts (x ∷ a) (y ∷ b) (s ∷ ss) long_a long_b p = (asks_long fronts (x ∷ a) (y ∷ b) s long_a long_b p.0, p.1)

-- the kept part of a line has the steps of the line
asks_kept : (fronts : ℕ) (xs : List ℕ) (ss : List Step) → AllAskFor fronts (kept_line 1048578 xs ∷ []) ss → AllAskFor fronts (first_piece 10 xs ∷ []) ss
asks_kept fronts xs ss p = elim (whole_or_long 1048576 xs) [
  | inl same ↦ subst (λ (l : List ℕ). AllAskFor fronts (l ∷ []) ss) same p
  | inr long ↦ asks_alike fronts (kept_line 1048578 xs) (first_piece 10 xs) ss long.0 long.1 p
]

-- the step of a line that contains no end byte
step_whole : (fronts : ℕ) (line : List ℕ) (a : Asked) → IsWholeLine line → AreWhole (step_of fronts line a ∷ [])
step_whole fronts line (by_front k r) whole = at (nat_lt k fronts)
  where
    at : (b : Bool) → AreWhole (cond b (does (for_front k r)) (does (for_operator BadLine)) ∷ [])
    at true = tt
    at false = tt
step_whole fronts line (by_operator (sequence from count now)) whole = at (nat_lt from fronts)
  where
    at : (b : Bool) → AreWhole (cond b (does (for_operator (Sequence from count now))) (does (for_operator BadLine)) ∷ [])
    at true = tt
    at false = tt
step_whole fronts line (by_operator (publish now)) whole = tt
step_whole fronts line (by_operator shutdown) whole = tt
step_whole fronts line (by_operator (shift now)) whole = tt
step_whole fronts line (by_frozen r) whole = (whole, tt)

asks_whole : (fronts : ℕ) (line : List ℕ) (s : Step) → IsWholeLine line → AsksFor fronts line s → AreWhole (s ∷ [])
asks_whole fronts line s whole (inl (a, is, e)) = subst (λ (t : Step). AreWhole (t ∷ [])) (sym e) (step_whole fronts line a whole)
asks_whole fronts line s whole (inr (bad, none)) = subst (λ (t : Step). AreWhole (t ∷ [])) (sym bad) tt

asked_whole : (fronts : ℕ) (line : List ℕ) (ss : List Step) → All (λ x. x ≢ 10) line → AllAskFor fronts (line ∷ []) ss → AreWhole ss
asked_whole fronts [] [] one asks = tt
asked_whole fronts [] (s ∷ ss) one asks = absurd asks
asked_whole fronts (b ∷ bs) [] one asks = absurd asks
asked_whole fronts (b ∷ bs) (s ∷ []) one asks =
    asks_whole fronts (b ∷ bs) s (omega arith, recursion_from_All (λ (x : ℕ). x ≢ 10) (b ∷ bs) one) asks.0
asked_whole fronts (b ∷ bs) (s ∷ t ∷ ss) one asks = absurd asks.1

both_whole : (ss ts : List Step) → AreWhole ss → AreWhole ts → AreWhole (ss ++ ts)
both_whole ss ts p q =
    subst (AllByRecursion IsWholeLine) (sym (filter_map-append frozen_line ss ts)) (go (filter_map frozen_line ss) (filter_map frozen_line ts) p q)
  where
    go : (xs ys : List (List ℕ)) → AllByRecursion IsWholeLine xs → AllByRecursion IsWholeLine ys → AllByRecursion IsWholeLine (xs ++ ys)
    go [] ys p q = q
    go (x ∷ xs) ys p q = (p.0, go xs ys p.1 q)

-- the line with this kept part was read, and its step was added
pub line_taken : (fronts : ℕ) (p q : Plan) (kept : List ℕ) (source source_next : Option (List ℕ)) → GivesOut fronts p q kept → All (λ x. x ≢ 10) kept
    → IsFirstLine 1048578 source source_next kept → LineTaken fronts p q source source_next false
line_taken fronts p q kept None source_next gives one is = (
  kept,
  λ ss given. let (more, asks, given_then) = gives ss given in (more, asks, given_then, asked_whole fronts kept more one asks),
  tt,
)
line_taken fronts p q kept (Some xs) source_next gives one is = (
  first_piece 10 xs,
  λ ss given.
      let (more, asks, given_then) = gives ss given in (
        more,
        asks_kept fronts xs more (subst (λ (l : List ℕ). AllAskFor fronts (l ∷ []) more) is.1 asks),
        given_then,
        asked_whole fronts kept more one asks,
      ),
  (is.0, refl, is.2),
)

-- no line was left
pub none_taken : (fronts : ℕ) (p : Plan) (line : List ℕ) (source source_next : Option (List ℕ)) → TakesNext 1048578 source source_next line false
    → LineTaken fronts p p source source_next true
none_taken fronts p line None source_next t = (tt, refl)
none_taken fronts p line (Some xs) source_next t = (t.0, refl)

-- the steps of the next line are added as well
next_line : (fronts : ℕ) (input rest line : List ℕ) (done more : List Step) → 0 < length rest → line ≡ first_piece 10 rest
    → AllAskFor fronts (line ∷ []) more → LeadsTo fronts input done rest → LeadsTo fronts input (done ++ more) (drop_through 10 rest)
next_line fronts input rest line done more some is asks before left behind =
    let whole : lines_of rest ≡ line ∷ lines_of (drop_through 10 rest) = first_line_cut rest some
    ∙ ap (λ (l : List ℕ). l ∷ lines_of (drop_through 10 rest)) (sym is) in
    let all : AllAskFor fronts (lines_of rest) (more ++ left) =
    subst (λ (ls : List (List ℕ)). AllAskFor fronts ls (more ++ left)) (sym whole)
    (ask_first fronts line (lines_of (drop_through 10 rest)) more left asks behind) in
    subst (λ (ts : List Step). AllAskFor fronts (lines_of input) ts) (sym (append_assoc done more left)) (before (more ++ left) all)

-- The plan assigns the steps of the lines read so far. If the input's bytes are known, these steps, followed by those of the lines that are
-- left, are the input's.
pub record HasRead (n : ℕ) (p : Plan) (input left : Option (List ℕ)) : Type 0 where
  pub done : List Step
  pub given : IsPlanOf n p done
  pub whole : AreWhole done
  pub leads : IfSome input (λ xs. (rest : List ℕ) × (left ≡ Some rest) × LeadsTo n xs done rest)

pub nothing_read : (n : ℕ) (p : Plan) (input : Option (List ℕ)) → IsPlanOf n p [] → HasRead n p input input
nothing_read n p None i = record { done = []; given = i; whole = tt; leads = tt }
nothing_read n p (Some xs) i = record { done = []; given = i; whole = tt; leads = (xs, refl, λ left all. all) }

-- one more line
pub line_read : (n : ℕ) (p q : Plan) (input source source_next : Option (List ℕ)) → LineTaken n p q source source_next false → HasRead n p input source
    → HasRead n q input source_next
line_read n p q input source source_next taken before =
    let more = taken.1 before.done before.given in
    record {
      done = before.done ++ more.0;
      given = more.2;
      whole = both_whole before.done more.0 before.whole more.3;
      leads = go input source before.leads taken.2;
    }
  where
    go : (known from : Option (List ℕ)) → IfSome known (λ xs. (rest : List ℕ) × (from ≡ Some rest) × LeadsTo n xs before.done rest)
        → IfSome from (λ xs. (0 < length xs) × (taken.0 ≡ first_piece 10 xs) × (source_next ≡ Some (drop_through 10 xs)))
        → IfSome known (λ xs. (rest : List ℕ) × (source_next ≡ Some rest) × LeadsTo n xs (before.done ++ (taken.1 before.done before.given).0) rest)
    go None from leads read = tt
    go (Some xs) None leads read = absurd (none-some leads.0 leads.1)
    go (Some xs) (Some ys) leads read =
        let same = same_Some ys leads.0 leads.1 in (
          drop_through 10 ys,
          read.2,
          next_line n xs ys taken.0 before.done (taken.1 before.done before.given).0 read.0 read.1 (taken.1 before.done before.given).1
              (subst (λ (l : List ℕ). LeadsTo n xs before.done l) (sym same) leads.2),
        )

-- the end of the input
pub input_read : (n : ℕ) (p : Plan) (input source : Option (List ℕ)) → IfSome source (λ xs. xs ≡ []) → HasRead n p input source
    → (ss : List Step) × AreStepsOf n input ss × IsPlanOf n p ss × AreWhole ss
input_read n p input source end h = (h.done, go input source end h.leads, h.given, h.whole)
  where
    go : (known from : Option (List ℕ)) → IfSome from (λ xs. xs ≡ []) → IfSome known (λ xs. (rest : List ℕ) × (from ≡ Some rest) × LeadsTo n xs h.done rest)
        → AreStepsOf n known h.done
    go None from end leads = tt
    go (Some xs) None end leads = absurd (none-some leads.0 leads.1)
    go (Some xs) (Some ys) end leads =
        let none : leads.0 ≡ [] = sym (same_Some ys leads.0 leads.1) ∙ end in
        let last : LeadsTo n xs h.done [] = subst (λ (l : List ℕ). LeadsTo n xs h.done l) none leads.2 in
        subst (λ (ts : List Step). AllAskFor n (lines_of xs) ts) (append-nil h.done) (last [] tt)
