-- The rule of the gate word holds at the opening, and while the fronts' seats are dealt out.
use Rattle.std.proofs.Common.{◌≡◌, ℕ, zero, suc, ◌+◌, ◌-◌, ◌<◌, ◌≤◌, nat_lt, if◌then◌else◌, List, [], ◌∷◌, ◌++◌, map, length, set, flat_map, All, true, false}
use Rattle.std.proofs.Common.{true≢false, Some, None, refl, sym, ap, ◌∙◌, subst, subst₂, get_or, ◌⊎◌, inl, inr, ⊎_elim, arith, length-append}
use Rattle.std.specs.Prelude.{Option, slice_get}
use Rattle.std.proofs.lemmas.Option.{same_Some}
use Rattle.std.proofs.lemmas.Bool.Decides.{nat_tests}
use Rattle.atomic_table.specs.Seated.{TableId}
use mathlib.Core.Option.{some-ne-none, some-injective}
use Rattle.atomic_table.specs.Table.{Me, Splits, opening}
use Rattle.ct_codec.specs.Items.{times}
use Rattle.ct_gate.specs.Ends.{IntakeView, OutletView}
use Rattle.ct_gate.specs.Seats.{FrontTickets, SeatView, EachView, tickets_in, fronts_in, view_of_front, view_of_shutter}
use Rattle.ct_gate.specs.Word.{HasTickets, IsSound, IsOpen, IsShut, GateHolds}
use Rattle.ct_gate.specs.Opening.{view_of_fronts, new_fronts, all_in_one, rest_of, first_seat, without_first, first_alone, IsNewFront, AreNewFronts}
use Rattle.ct_gate.proofs.Counts.{off, times-append, times_set, times_snoc, each_set, each_snoc, below_more}

fronts_cut : (x : ℕ) (fs : List FrontTickets)
    → times x (map (λ (f : FrontTickets). f.front) fs) ≡ times x (map (λ (f : FrontTickets). f.front) (without_first fs))
    + times x (map (λ (f : FrontTickets). f.front) (first_alone fs))
fronts_cut x [] = refl
fronts_cut x (f ∷ fs) = omega arith

tickets_cut : (x : ℕ) (fs : List FrontTickets)
    → times x (flat_map (λ (f : FrontTickets). f.tickets) fs) ≡ times x (flat_map (λ (f : FrontTickets). f.tickets) (without_first fs))
    + times x (flat_map (λ (f : FrontTickets). f.tickets) (first_alone fs))
tickets_cut x [] = refl
tickets_cut x (f ∷ fs) = omega (arith, times-append x f.tickets (flat_map (λ (f : FrontTickets). f.tickets) fs), times-append x f.tickets [])

tickets_rest : (fs : List FrontTickets) → All HasTickets fs → All HasTickets (without_first fs)
tickets_rest [] h = h
tickets_rest (f ∷ fs) h = λ k d lt. h (suc k) d (omega arith)

tickets_first : (fs : List FrontTickets) → All HasTickets fs → All HasTickets (first_alone fs)
tickets_first [] h = h
tickets_first (f ∷ fs) h = λ k d lt. at k d lt
  where
    at : (k : ℕ) (d : FrontTickets) → k < 1 → HasTickets (get_or (f ∷ []) k d)
    at zero d lt = h 0 f (omega arith)
    at (suc k) d lt = absurd (omega arith)

-- The first of the fronts that the opener still holds gets a seat of its own.
deals : (fronts id : ℕ) (fs : List FrontTickets)
    → Splits (GateHolds fronts) id (view_of_fronts fs true) (rest_of (view_of_fronts fs true)) (first_seat (view_of_fronts fs true))
deals fronts id fs s h at =
    let v = view_of_fronts fs true in
    let left = rest_of v in
    let right = first_seat v in
    let was = (h.seats id v at).0 in
    let rest : IsSound left = record {
      tickets = tickets_rest fs was.tickets;
      refused = omega arith;
      unknown = λ _. refl;
      others =
          λ k. absurd (true≢false k);
    } in
    let first : IsSound right = record { tickets = tickets_first fs was.tickets; refused = omega arith; unknown = λ _. refl; others = λ _. refl } in
    record {
      word = h.word;
      words = h.words;
      limit = h.limit;
      dealt = λ x. omega (arith, times_snoc fronts_in (set s.views id left) right x, times_set fronts_in s.views id v left x at, h.dealt x, fronts_cut x fs);
      shutter = h.shutter;
      seats = each_snoc (λ j u. IsSound u × (u.is_shutter ≡ true → j ≡ h.shutter)) (set s.views id left) right
          (each_set (λ j u. IsSound u × (u.is_shutter ≡ true → j ≡ h.shutter)) s.views id left (λ j u apart e. h.seats j u e) (rest, (h.seats id v at).1))
          (λ j. (first, (λ k. absurd (off k))));
      phase = ⊎_elim
          (λ (o : IsOpen h.word s.views). inl record {
            clear = o.clear;
            tickets = λ x. omega (
              arith,
              times_snoc tickets_in (set s.views id left) right x,
              times_set tickets_in s.views id v left x at,
              o.tickets x,
              tickets_cut x fs,
            );
            unknown = each_snoc (λ j u. (u.knows_shutdown ≡ false) × (u.accepted ≡ None)) (set s.views id left) right
                (each_set (λ j u. (u.knows_shutdown ≡ false) × (u.accepted ≡ None)) s.views id left (λ j u apart e. o.unknown j u e) (refl, refl))
                (λ j. (refl, refl));
          })
          (λ (c : (n : ℕ) × IsShut n h.word s.views). let never : None ≡ Some c.0 = c.1.accepted id v at refl in absurd (cc))
          h.phase;
    }

pub deals_as : (fronts id : ℕ) (v : SeatView) (fs : List FrontTickets) → v ≡ view_of_fronts fs true → Splits (GateHolds fronts) id v (rest_of v) (first_seat v)
deals_as fronts id v fs is = subst (λ (v : SeatView). Splits (GateHolds fronts) id v (rest_of v) (first_seat v)) (sym is) (deals fronts id fs)

below_at : (x m n : ℕ) → m ≡ n → ◌≡◌ {A = ℕ} (if nat_lt x m then 1 else 0) (if nat_lt x n then 1 else 0)
below_at x m n e = ap (λ (k : ℕ). if nat_lt x k then 1 else 0) e

times_new : (x k n : ℕ) → times x (map (λ (f : FrontTickets). f.front) (new_fronts k n)) + (if nat_lt x k then 1 else 0) ≡ (if nat_lt x (k + n) then 1 else 0)
times_new x k zero = omega (arith, below_at x k (k + 0) (omega arith))
times_new x k (suc n) = omega (arith, times_new x (k + 1) n, below_more x k, below_at x (k + 1 + n) (k + suc n) (omega arith))

no_tickets : (x k n : ℕ) → times x (flat_map (λ (f : FrontTickets). f.tickets) (new_fronts k n)) ≡ 0
no_tickets x k zero = refl
no_tickets x k (suc n) = no_tickets x (k + 1) n

tickets_new : (k n : ℕ) → All HasTickets (new_fronts k n)
tickets_new k zero i d lt = absurd (omega arith)
tickets_new k (suc n) zero d lt = ((λ a b e before inside. absurd (omega arith)), omega arith)
tickets_new k (suc n) (suc i) d lt = tickets_new (k + 1) n i d (omega arith)

one_each : (P : ℕ → SeatView → Type 0) (v : SeatView) → P 0 v → EachView P (v ∷ [])
one_each P v p zero u e = subst (P 0) (some-injective v u e) p
one_each P v p (suc id) u e = absurd (some-ne-none u (sym e))

none_below : (x : ℕ) → ◌≡◌ {A = ℕ} (if nat_lt x 0 then 1 else 0) 0
none_below x = grind (arith, nat_tests)

-- At the opening, one seat holds all fronts. It is the shutter's seat.
pub opens : (fronts : ℕ) → fronts ≤ 16 → GateHolds fronts (opening (0 ∷ []) [] (all_in_one fronts))
opens fronts few =
    let sound : IsSound (all_in_one fronts) =
    record { tickets = tickets_new 0 fronts; refused = omega arith; unknown = λ _. refl; others = λ k. absurd (true≢false k) } in
    record {
      word = 0;
      words = refl;
      limit = few;
      dealt = λ x. omega (
        arith,
        times_new x 0 fronts,
        times-append x (fronts_in (all_in_one fronts)) [],
        none_below x,
        below_at x
            (0 + fronts) fronts (omega arith),
      );
      shutter = 0;
      seats = one_each (λ j u. IsSound u × (u.is_shutter ≡ true → j ≡ 0)) (all_in_one fronts) (sound, (λ _. refl));
      phase = inl record {
        clear = omega arith;
        tickets = λ x. omega (arith, no_tickets x 0 fronts, times-append x (tickets_in (all_in_one fronts)) [], none_below x);
        unknown = one_each (λ j u. (u.knows_shutdown ≡ false) × (u.accepted ≡ None)) (all_in_one fronts) (refl, refl);
      };
    }

next_front : (k n : ℕ) → k < n → new_fronts k (n - k) ≡ record { front = k; tickets = [] } ∷ new_fronts (k + 1) (n - (k + 1))
next_front k n lt = let e : n - k ≡ suc (n - (k + 1)) = omega arith in ap (new_fronts k) e

-- the rest after the k-th of n fronts got its seat, and that seat
pub rest_left : (k n : ℕ) (m : Me (Unit {0}) SeatView) → k < n → m ≡ (view_of_fronts (new_fronts k (n - k)) true, [])
    → ◌≡◌ {A = Me (Unit {0}) SeatView} (rest_of m.0, m.1) (view_of_fronts (new_fronts (k + 1) (n - (k + 1))) true, [])
rest_left k n m lt is = ap (λ (m : Me (Unit {0}) SeatView). (rest_of m.0, m.1)) is
    ∙ ap (λ (fs : List FrontTickets). (rest_of (view_of_fronts fs true), [])) (next_front k n lt)

pub first_given : (k n : ℕ) (m : Me (Unit {0}) SeatView) → k < n → m ≡ (view_of_fronts (new_fronts k (n - k)) true, [])
    → ◌≡◌ {A = Me (Unit {0}) SeatView} (first_seat m.0, []) (view_of_front k [] false 0, [])
first_given k n m lt is = ap (λ (m : Me (Unit {0}) SeatView). (first_seat m.0, [])) is
    ∙ ap (λ (fs : List FrontTickets). (first_seat (view_of_fronts fs true), [])) (next_front k n lt)

pub no_front_left : (n : ℕ) (m : Me (Unit {0}) SeatView) → m ≡ (view_of_fronts (new_fronts n (n - n)) true, []) → m ≡ (view_of_shutter None, [])
no_front_left n m is = let e : n - n ≡ 0 = omega arith in is ∙ ap (λ (j : ℕ). (view_of_fronts (new_fronts n j) true, [])) e

-- an element of a list with one more element at its end
pub get_snoc : {X : Type 0} (xs : List X) (x y : X) (k : ℕ) → slice_get (xs ++ x ∷ []) k ≡ Some y → ((k < length xs) × (slice_get xs k ≡ Some y))
    ⊎ ((k ≡ length xs) × (x ≡ y))
get_snoc [] x y zero e = inr (refl, same_Some x y e)
get_snoc {X} [] x y (suc k) e = let never : ◌≡◌ {A = Option X} None (Some y) = e in absurd (cc)
get_snoc (z ∷ zs) x y zero e = inl (omega arith, e)
get_snoc {X} (z ∷ zs) x y (suc k) e =
    ⊎_elim
    (λ (a : (k < length zs) × (slice_get zs k ≡ Some y)). inl (omega (arith, a.0), a.1))
    (λ (b : (k ≡ length zs) × (x ≡ y)). inr (ap suc b.0, b.1))
    (get_snoc zs x y k e)

-- one more front
pub one_more_front : (gate : TableId) (places n : ℕ) (intakes : List IntakeView) (outlets : List OutletView) (i : IntakeView) (o : OutletView)
    → AreNewFronts gate places n intakes outlets → IsNewFront gate places n i o → AreNewFronts gate places (n + 1) (intakes ++ i ∷ []) (outlets ++ o ∷ [])
one_more_front gate places n intakes outlets i o all new = record {
  intake_count = omega (arith, length-append intakes (i ∷ []), all.intake_count);
  outlet_count = omega (arith, length-append outlets (o ∷ []), all.outlet_count);
  each = λ k x y at there.
      ⊎_elim
      (λ (a : (k < length intakes) × (slice_get intakes k ≡ Some x)).
      ⊎_elim
      (λ (b : (k < length outlets) × (slice_get outlets k ≡ Some y)). all.each k x y a.1 b.1)
      (λ (b : (k ≡ length outlets) × (o ≡ y)). absurd (omega (arith, a.0, b.0, all.intake_count, all.outlet_count)))
      (get_snoc outlets o y k there))
      (λ (a : (k ≡ length intakes) × (i ≡ x)).
      ⊎_elim
      (λ (b : (k < length outlets) × (slice_get outlets k ≡ Some y)). absurd (omega (arith, a.0, b.0, all.intake_count, all.outlet_count)))
      (λ (b : (k ≡ length outlets) × (o ≡ y)). last k x y (a.0 ∙ all.intake_count) a.1 b.1)
      (get_snoc outlets o y k there))
      (get_snoc intakes i x k at);
}
  where
    last : (k : ℕ) (x : IntakeView) (y : OutletView) → k ≡ n → i ≡ x → o ≡ y → IsNewFront gate places k x y
    last k x y number intake outlet =
        subst (λ (k : ℕ). IsNewFront gate places k x y) (sym number) (subst₂ (IsNewFront gate places n) intake outlet new)
