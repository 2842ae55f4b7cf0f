-- Each kind of step on the gate word keeps its rule.
use Rattle.std.proofs.Common.{◌≡◌, ◌⊎◌, ℕ, zero, suc, ◌+◌, ◌*◌, ◌%◌, ◌^◌, ◌<◌, ◌≤◌, List, [], ◌∷◌, ◌++◌, length, get_or, set, flat_map, All, true, false}
use Rattle.std.proofs.Common.{true≢false, Some, None, refl, sym, ap, ◌∙◌, subst, inl, inr, ⊎_elim, arith, length-append, mod-eq_of_lt, bit_or}
use Rattle.std.specs.Int.Bits.{or_zero_r}
use Rattle.std.proofs.lemmas.Nat.{or_block}
use Rattle.atomic_table.proofs.Lists.{set_again}
use Rattle.std.specs.Prelude.{slice_index, slice_set}
use Rattle.std.proofs.lemmas.List.Quantifiers.{all_pairs_push}
use mathlib.Core.Option.{Option as Maybe, none, some}
use lib.ListN.{get_elem?}
use Rattle.atomic_table.specs.Table.{State, Me, keeps, step, Allows}
use Rattle.ct_codec.specs.Items.{times, EachOnceBelow, Rises}
use Rattle.ct_gate.specs.Seats.{SeatView, refused_draws, tickets_in, fronts_in, view_of_front, view_of_shutter}
use Rattle.ct_gate.specs.Word.{HasTickets, IsSound, IsOpen, IsShut, GateHolds}
use Rattle.ct_gate.specs.Steps.{Draws, Glances, Shuts, after_shut}
use Rattle.ct_gate.proofs.Counts.{off, times-append, times_set, times_within, times_there, refused_set, each_set, length_once, member_below, tickets_bound}
use Rattle.ct_gate.proofs.Counts.{refused_bound, view_bound, view_refused, below_more}

-- the table has one word, the word found
found_word : (fronts : ℕ) (s : State (Unit {0}) SeatView) → GateHolds fronts s → s.words ≡ slice_index s.words 0 ∷ []
found_word fronts s h = h.words ∙ ap (λ (k : ℕ). k ∷ []) (sym (ap (λ ws. slice_index ws 0) h.words))

found_phase : (fronts : ℕ) (s : State (Unit {0}) SeatView) → GateHolds fronts s → IsOpen (slice_index s.words 0) s.views
    ⊎ ((n : ℕ) × IsShut n (slice_index s.words 0) s.views)
found_phase fronts s h = subst (λ (k : ℕ). IsOpen k s.views ⊎ ((n : ℕ) × IsShut n k s.views)) (sym (ap (λ ws. slice_index ws 0) h.words)) h.phase

-- One seat's view becomes w, which holds the same fronts.
one_view : (fronts id : ℕ) (s : State (Unit {0}) SeatView) (hs : List (Maybe (Unit {0}))) (ws : List ℕ) (word : ℕ) (v w : SeatView) → GateHolds fronts s
    → get_elem? s.views id ≡ some v
    → fronts_in w ≡ fronts_in v → IsSound w → (w.is_shutter ≡ true → v.is_shutter ≡ true) → ws ≡ word ∷ []
    → (IsOpen word (set s.views id w) ⊎ ((n : ℕ) × IsShut n word (set s.views id w)))
    → GateHolds fronts record { words = ws; homes = hs; views = set s.views id w }
one_view fronts id s hs ws word v w h at same sound place is phase = record {
  word = word;
  words = is;
  limit = h.limit;
  dealt = λ x. omega (arith, times_set fronts_in s.views id v w x at, h.dealt x, ap (λ (l : List ℕ). times x l) same);
  shutter = h.shutter;
  seats = each_set (λ j u. IsSound u × (u.is_shutter ≡ true → j ≡ h.shutter)) s.views id w (λ j u apart e. h.seats j u e)
      (sound, λ k. (h.seats id v at).1 (place k));
  phase = phase;
}

-- the maximum number of fronts, tickets and refused draws
fronts_count : (fronts : ℕ) (s : State (Unit {0}) SeatView) → GateHolds fronts s → length (flat_map fronts_in s.views) ≤ 16
fronts_count fronts s h = omega (arith, length_once fronts (flat_map fronts_in s.views) h.dealt, h.limit)

tickets_count : (fronts n : ℕ) (s : State (Unit {0}) SeatView) → GateHolds fronts s → EachOnceBelow n (flat_map tickets_in s.views) → n ≤ 2 ^ 32 * 16
tickets_count fronts n s h once =
    omega (arith, length_once n (flat_map tickets_in s.views) once, fronts_count fronts s h, tickets_bound s.views (λ id v e. view_bound v (h.seats id v e).0))

refused_count : (fronts : ℕ) (s : State (Unit {0}) SeatView) → GateHolds fronts s → refused_draws s.views ≤ 16
refused_count fronts s h = omega (arith, fronts_count fronts s h, refused_bound s.views (λ id v e. view_refused v (h.seats id v e).0))

words_set : (ws : List ℕ) (word new : ℕ) → ws ≡ word ∷ [] → slice_set ws 0 new ≡ new ∷ []
words_set ws word new e = ap (λ (l : List ℕ). slice_set l 0 new) e

not_both : (word : ℕ) → word < 2 ^ 63 → 2 ^ 63 ≤ word → ⊥
not_both word lt ge = omega arith

-- after the gate is shut, bit 63 is set
not_clear : (n word r : ℕ) → word ≡ 2 ^ 63 + n + r → word < 2 ^ 63 → ⊥
not_clear n word r is lt = omega arith

-- a draw, by the phase in which it happens
module _ (fronts id number : ℕ) (ts : List ℕ) (refused : ℕ) (few : length ts < 2 ^ 32) (s : State (Unit {0}) SeatView) (h : GateHolds fronts s)
    (at : get_elem? s.views id ≡ some (view_of_front number ts false refused)) where
  draw_open : (n : ℕ) → IsOpen n s.views → IsOpen (n + 1) (set s.views id (view_of_front number (ts ++ n ∷ []) false refused))
  draw_open n o =
      let v = view_of_front number ts false refused in
      let w = view_of_front number (ts ++ n ∷ []) false refused in
      record {
        clear = omega (arith, tickets_count fronts n s h o.tickets);
        tickets = λ x. omega (
          arith,
          times_set tickets_in s.views id v w x at,
          o.tickets x,
          below_more x n,
          times-append x ts [],
          times-append x
              (ts ++ n ∷ []) [],
          times-append x ts (n ∷ []),
        );
        unknown = each_set (λ j u. (u.knows_shutdown ≡ false) × (u.accepted ≡ None)) s.views id w (λ j u apart e. o.unknown j u e) (refl, refl);
      }

  draw_sound : (n : ℕ) → EachOnceBelow n (flat_map tickets_in s.views) → IsSound (view_of_front number (ts ++ n ∷ []) false refused)
  draw_sound n once =
      let v = view_of_front number ts false refused in
      let was = (h.seats id v at).0 in
      let mine : Rises ts × (length ts ≤ 2 ^ 32) = was.tickets 0 (record { front = number; tickets = ts }) (omega arith) in
      let below = λ (k d : ℕ) (lt : k < length ts). member_below n (flat_map tickets_in s.views) once (get_or ts k d)
      (omega (arith, times_within tickets_in s.views id v (get_or ts k d) at, times-append (get_or ts k d) ts [], times_there ts k d lt)) in
      record {
        tickets = one_alone (ts ++ n ∷ []) (all_pairs_push (λ a b. a < b) ts n mine.0 below) (omega (arith, length-append ts (n ∷ [])));
        refused = was.refused;
        unknown = was.unknown;
        others = λ _. refl;
      }
    where
      one_alone : (us : List ℕ) → Rises us → length us ≤ 2 ^ 32 → All HasTickets (record { front = number; tickets = us } ∷ [])
      one_alone us r l zero d lt = (r, l)
      one_alone us r l (suc k) d lt = absurd (omega arith)

  draw_shut : (n word : ℕ) → IsShut n word s.views → IsShut n (word + 1) (set s.views id (view_of_front number ts true (refused + 1)))
  draw_shut n word c =
      let v = view_of_front number ts false refused in
      let w = view_of_front number ts true (refused + 1) in
      record {
        tickets = λ x. omega (arith, times_set tickets_in s.views id v w x at, c.tickets x);
        draws = omega (arith, refused_set s.views id v w at, c.draws);
        accepted = each_set (λ j u. u.is_shutter ≡ true → u.accepted ≡ Some n) s.views id w (λ j u apart e. c.accepted j u e) (λ k. absurd (off k));
      }

  refuse_sound : IsSound (view_of_front number ts true (refused + 1))
  refuse_sound =
      let was = (h.seats id (view_of_front number ts false refused) at).0 in
      record { tickets = was.tickets; refused = omega (arith, was.unknown refl); unknown = λ k. absurd (true≢false k); others = λ _. refl }

-- A front's seat draws.
pub draws : (fronts slots id number : ℕ) (ts : List ℕ) (refused : ℕ) → length ts < 2 ^ 32
    → Allows (GateHolds fronts) slots id (view_of_front number ts false refused, []) 0 (λ n. (n + 1) % 2 ^ 64)
    (Draws (step slots 0 1 0 none) (view_of_front number ts false refused, []))
draws fronts slots id number ts refused few s h _ at fits =
    let word : ℕ = slice_index s.words 0 in
    let v = view_of_front number ts false refused in
    let is = found_word fronts s h in
    ⊎_elim
    (λ (o : IsOpen word s.views).
    let w = view_of_front number (ts ++ word ∷ []) false refused in
    let next : (word + 1) % 2 ^ 64 ≡ word + 1 = mod-eq_of_lt (room_open word o.clear) in (
      w,
      keeps,
      tt,
      one_view fronts id s s.homes (slice_set s.words 0 ((word + 1) % 2 ^ 64)) (word + 1) v w h at refl
          (draw_sound fronts id number ts refused few s h at word o.tickets) (λ k. k)
          (words_set s.words word ((word + 1) % 2 ^ 64) is ∙ ap (λ (k : ℕ). k ∷ []) next)
          (inl (draw_open fronts id number ts refused few s h at word o)),
      (refl, (λ _. refl), (λ ge. absurd (not_both word o.clear ge))),
    ))
    (λ (c : (n : ℕ) × IsShut n word s.views).
    let w = view_of_front number ts true (refused + 1) in
    let next : (word + 1) % 2 ^ 64 ≡ word + 1 =
    mod-eq_of_lt (room_shut c.0 word (refused_draws s.views) c.1.draws (tickets_count fronts c.0 s h c.1.tickets) (refused_count fronts s h)) in (
      w,
      keeps,
      tt,
      one_view fronts id s s.homes (slice_set s.words 0 ((word + 1) % 2 ^ 64)) (word + 1) v w h at refl
          (refuse_sound fronts id number ts refused few s h at) (λ k. k)
          (words_set s.words word ((word + 1) % 2 ^ 64) is ∙ ap (λ (k : ℕ). k ∷ []) next)
          (inr (c.0, draw_shut fronts id number ts refused few s h at c.0 word c.1)),
      (refl, (λ lt. absurd (not_clear c.0 word (refused_draws s.views) c.1.draws lt)), (λ _. refl)),
    ))
    (found_phase fronts s h)
  where
    room_open : (word : ℕ) → word < 2 ^ 63 → word + 1 < 2 ^ 64
    room_open word lt = omega arith

    room_shut : (n word r : ℕ) → word ≡ 2 ^ 63 + n + r → n ≤ 2 ^ 32 * 16 → r ≤ 16 → word + 1 < 2 ^ 64
    room_shut n word r is a b = omega arith

-- A front's seat reads the word (a glance).
pub glances : (fronts slots id number : ℕ) (ts : List ℕ) (refused : ℕ)
    → Allows (GateHolds fronts) slots id (view_of_front number ts false refused, []) 0 (λ n. n)
    (Glances (step slots 0 0 0 none) (view_of_front number ts false refused, []))
glances fronts slots id number ts refused s h _ at fits =
    let word : ℕ = slice_index s.words 0 in
    let v = view_of_front number ts false refused in
    let w = view_of_front number ts true refused in
    let is = found_word fronts s h in
    let was = (h.seats id v at).0 in
    ⊎_elim
    (λ (o : IsOpen word s.views). (
      v,
      keeps,
      tt,
      one_view fronts id s s.homes (slice_set s.words 0 word) word v v h at refl was (λ k. k) (words_set s.words word word is)
          (inl (subst (λ (l : List SeatView). IsOpen word l) (sym (set_again s.views id v at)) o)),
      (refl, (λ _. refl), (λ ge. absurd (not_both word o.clear ge))),
    ))
    (λ (c : (n : ℕ) × IsShut n word s.views).
    let sound : IsSound w = record { tickets = was.tickets; refused = was.refused; unknown = λ k. absurd (true≢false k); others = λ _. refl } in
    let shut : IsShut c.0 word (set s.views id w) = record {
      tickets = λ x. omega (arith, times_set tickets_in s.views id v w x at, c.1.tickets x);
      draws = omega (arith, refused_set s.views id v w at, c.1.draws);
      accepted = each_set (λ j u. u.is_shutter ≡ true → u.accepted ≡ Some c.0) s.views id w (λ j u apart e. c.1.accepted j u e) (λ k. absurd (off k));
    } in (
      w,
      keeps,
      tt,
      one_view fronts id s s.homes (slice_set s.words 0 word) word v w h at refl sound (λ k. k) (words_set s.words word word is) (inr (c.0, shut)),
      (refl, (λ lt. absurd (not_clear c.0 word (refused_draws s.views) c.1.draws lt)), (λ _. refl)),
    ))
    (found_phase fronts s h)

or_top : (word : ℕ) → word < 2 ^ 63 → bit_or word (2 ^ 63) ≡ 2 ^ 63 + word
or_top word lt =
    let plain : word ≡ 0 * 2 ^ 63 + word = omega arith in
    let low : 0 < 2 ^ 63 = omega arith in
    ap (λ (k : ℕ). bit_or k (2 ^ 63)) plain ∙ or_block 63 0 1 word 0 lt low ∙ ap (λ (k : ℕ). 2 ^ 63 + k) (or_zero_r word)

none_refused : (views : List SeatView) → ((id : ℕ) (v : SeatView) → get_elem? views id ≡ some v → v.refused ≡ 0) → refused_draws views ≡ 0
none_refused [] h = refl
none_refused (v ∷ vs) h = omega (arith, h 0 v refl, none_refused vs (λ id u e. h (suc id) u e))

-- The shutter's seat sets bit 63.
pub shuts : (fronts slots id : ℕ) → Allows (GateHolds fronts) slots id (view_of_shutter None, []) 0 (λ n. bit_or n (2 ^ 63))
    (Shuts (step slots 0 (2 ^ 63) 0 none) (view_of_shutter None, []))
shuts fronts slots id s h _ at fits =
    let word : ℕ = slice_index s.words 0 in
    let v = view_of_shutter None in
    let is = found_word fronts s h in
    let mine = h.seats id v at in
    ⊎_elim
    (λ (o : IsOpen word s.views).
    let w = after_shut word v in
    let none_yet : refused_draws s.views ≡ 0 = none_refused s.views (λ j u e. (h.seats j u e).0.unknown (o.unknown j u e).0) in
    let sound : IsSound w = record { tickets = mine.0.tickets; refused = mine.0.refused; unknown = mine.0.unknown; others = λ k. absurd (true≢false k) } in
    let shut : IsShut word (2 ^ 63 + word) (set s.views id w) = record {
      tickets = λ x. omega (arith, times_set tickets_in s.views id v w x at, o.tickets x);
      draws = omega (arith, refused_set s.views id v w at, none_yet);
      accepted = each_set (λ j u. u.is_shutter ≡ true → u.accepted ≡ Some word) s.views id w
          (λ j u apart e k. absurd (apart ((h.seats j u e).1 k ∙ sym (mine.1 refl)))) (λ _. refl);
    } in (
      w,
      keeps,
      tt,
      one_view fronts id s s.homes (slice_set s.words 0 (bit_or word (2 ^ 63))) (2 ^ 63 + word) v w h at refl sound (λ k. k)
          (words_set s.words word (bit_or word (2 ^ 63)) is ∙ ap (λ (k : ℕ). k ∷ []) (or_top word o.clear))
          (inr (word, shut)),
      (refl, o.clear, refl),
    ))
    (λ (c : (n : ℕ) × IsShut n word s.views). let never : None ≡ Some c.0 = c.1.accepted id v at refl in absurd (cc))
    (found_phase fronts s h)

-- the steps, at a seat whose view is known
pub shuts_as : (fronts slots id : ℕ) (m : Me (Unit {0}) SeatView) → m ≡ (view_of_shutter None, [])
    → Allows (GateHolds fronts) slots id m 0 (λ n. bit_or n (2 ^ 63)) (Shuts (step slots 0 (2 ^ 63) 0 none) m)
shuts_as fronts slots id m is = subst (λ (m : Me (Unit {0}) SeatView).
    Allows (GateHolds fronts) slots id m 0 (λ n. bit_or n (2 ^ 63)) (Shuts (step slots 0 (2 ^ 63) 0 none) m)) (sym is) (shuts fronts slots id)

pub draws_as : (fronts slots id : ℕ) (m : Me (Unit {0}) SeatView) (number : ℕ) (ts : List ℕ) (refused : ℕ)
    → m ≡ (view_of_front number ts false refused, []) → length ts < 2 ^ 32
    → Allows (GateHolds fronts) slots id m 0 (λ n. (n + 1) % 2 ^ 64) (Draws (step slots 0 1 0 none) m)
draws_as fronts slots id m number ts refused is few =
    subst (λ (m : Me (Unit {0}) SeatView). Allows (GateHolds fronts) slots id m 0 (λ n. (n + 1) % 2 ^ 64) (Draws (step slots 0 1 0 none) m)) (sym is)
    (draws fronts slots id number ts refused few)

pub glances_as : (fronts slots id : ℕ) (m : Me (Unit {0}) SeatView) (number : ℕ) (ts : List ℕ) (refused : ℕ) → m ≡ (view_of_front number ts false refused, [])
    → Allows (GateHolds fronts) slots id m 0 (λ n. n) (Glances (step slots 0 0 0 none) m)
glances_as fronts slots id m number ts refused is =
    subst (λ (m : Me (Unit {0}) SeatView). Allows (GateHolds fronts) slots id m 0 (λ n. n) (Glances (step slots 0 0 0 none) m)) (sym is)
    (glances fronts slots id number ts refused)
