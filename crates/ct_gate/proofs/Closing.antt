-- The rule of the gate word holds while the fronts' seats are taken in, and at the end.
use Rattle.std.proofs.Common.{◌≡◌, ◌≢◌, ℕ, zero, suc, ◌+◌, ◌≤◌, ◌||◌, List, [], ◌∷◌, map, length, set, flat_map, All, Bool, true, false, true≢false, Some, None}
use Rattle.std.proofs.Common.{refl, sym, ap, ap₂, ◌∙◌, subst, inl, inr, ⊎_elim, arith, length-append}
use Rattle.std.proofs.lemmas.List.{map-append, length-map}
use Rattle.std.proofs.lemmas.List.Elements.{All-append, All-map}
use Rattle.std.proofs.lemmas.List.Folds.{flat_map-map}
use Rattle.std.proofs.lemmas.Grind.{flat_map-append}
use mathlib.Core.Option.{some, some-ne-none, some-injective}
use lib.ListN.{get_elem?}
use Rattle.atomic_table.specs.Table.{State, Joins, Seen}
use Rattle.atomic_table.proofs.Lists.{at_set}
use Rattle.ct_codec.specs.Items.{times, EachOnceBelow, Rises, Tickets, tickets_of}
use Rattle.ct_gate.specs.Ends.{IntakeView}
use Rattle.ct_gate.specs.Seats.{FrontTickets, SeatView, tickets_in, fronts_in}
use Rattle.ct_gate.specs.Word.{HasTickets, IsSound, IsOpen, IsShut, GateHolds}
use Rattle.ct_gate.specs.Closing.{gathered, spent, front_tickets}
use Rattle.ct_gate.proofs.Counts.{off, times-append, times_set, refused_set, each_set, length_once}

fronts_both : (x : ℕ) (v w : SeatView) → times x (fronts_in (gathered v w)) ≡ times x (fronts_in v) + times x (fronts_in w)
fronts_both x v w = ap (λ (l : List ℕ). times x l) (map-append (λ (f : FrontTickets). f.front) v.fronts w.fronts) ∙ times-append x (fronts_in v) (fronts_in w)

tickets_both : (x : ℕ) (v w : SeatView) → times x (tickets_in (gathered v w)) ≡ times x (tickets_in v) + times x (tickets_in w)
tickets_both x v w = ap (λ (l : List ℕ). times x l) (flat_map-append (λ (f : FrontTickets). f.tickets) v.fronts w.fronts)
    ∙ times-append x (tickets_in v) (tickets_in w)

neither : (a b : Bool) → (a || b) ≡ false → (a ≡ false) × (b ≡ false)
neither false false e = (refl, refl)
neither false true e = absurd (true≢false e)
neither true b e = absurd (true≢false e)

-- A seat takes in the fronts of a seat that is not the shutter's.
pub gathers : (fronts id : ℕ) (v : SeatView) (other : ℕ) (w : SeatView) → w.is_shutter ≡ false → Joins (GateHolds fronts) id v other w (gathered v w) spent
gathers fronts id v other w front s h at apart there =
    let b = gathered v w in
    let mine = h.seats id v at in
    let place = ⊎_elim
    (λ (t : (other ≡ id) × (b ≡ w)). absurd (apart t.0))
    (λ (t : (other ≢ id) × (get_elem? s.views other ≡ some w)). t.1)
    (at_set s.views id other b w there) in
    let theirs = h.seats other w place in
    let sound : IsSound b = record {
      tickets = All-append HasTickets v.fronts w.fronts mine.0.tickets theirs.0.tickets;
      refused = omega (arith, mine.0.refused, theirs.0.refused, length-append v.fronts w.fronts);
      unknown = λ e. let n = neither v.knows_shutdown w.knows_shutdown e in omega (arith, mine.0.unknown n.0, theirs.0.unknown n.1);
      others = mine.0.others;
    } in
    let empty : IsSound spent = record { tickets = λ k d lt. absurd (omega arith); refused = omega arith; unknown = λ _. refl; others = λ _. refl } in
    record {
      word = h.word;
      words = h.words;
      limit = h.limit;
      dealt = λ x. omega (
        arith,
        times_set fronts_in (set s.views id b) other w spent x there,
        times_set fronts_in s.views id v b x at,
        h.dealt x,
        fronts_both x v w,
      );
      shutter = h.shutter;
      seats = each_set (λ j u. IsSound u × (u.is_shutter ≡ true → j ≡ h.shutter)) (set s.views id b) other spent
          (λ j u far e. each_set (λ j u. IsSound u × (u.is_shutter ≡ true → j ≡ h.shutter)) s.views id b (λ i y _ e'. h.seats i y e') (sound, mine.1) j u e)
          (empty, (λ k. absurd (off k)));
      phase = ⊎_elim
          (λ (o : IsOpen h.word s.views). inl record {
            clear = o.clear;
            tickets = λ x. omega (
              arith,
              times_set tickets_in (set s.views id b) other w spent x there,
              times_set tickets_in s.views id v b x at,
              o.tickets x,
              tickets_both x v w,
            );
            unknown = each_set (λ j u. (u.knows_shutdown ≡ false) × (u.accepted ≡ None)) (set s.views id b) other spent
                (λ j u far e. each_set (λ j u. (u.knows_shutdown ≡ false) × (u.accepted ≡ None)) s.views id b (λ i y _ e'. o.unknown i y e')
                (ap₂ (λ (a b : Bool). a || b) (o.unknown id v at).0 (o.unknown other w place).0, (o.unknown id v at).1) j u e) (refl, refl);
          })
          (λ (c : (n : ℕ) × IsShut n h.word s.views). inr (
            c.0,
            record {
              tickets = λ x. omega (
                arith,
                times_set tickets_in (set s.views id b) other w spent x there,
                times_set tickets_in s.views id v b x at,
                c.1.tickets x,
                tickets_both x v w,
              );
              draws = omega (arith, c.1.draws, refused_set (set s.views id b) other w spent there, refused_set s.views id v b at);
              accepted = each_set (λ j u. u.is_shutter ≡ true → u.accepted ≡ Some c.0) (set s.views id b) other spent
                  (λ j u far e. each_set (λ j u. u.is_shutter ≡ true → u.accepted ≡ Some c.0) s.views id b (λ i y _ e'. c.1.accepted i y e')
                  (c.1.accepted id v at) j u e) (λ k. absurd (off k));
            },
          ))
          h.phase;
    }

-- views without fronts have no tickets
no_fronts : (x : ℕ) (views : List SeatView) → length (flat_map fronts_in views) ≤ 0 → times x (flat_map tickets_in views) ≡ 0
no_fronts x [] h = refl
no_fronts x (v ∷ vs) h =
    let joined = length-append (fronts_in v) (flat_map fronts_in vs) in
    omega (
      arith,
      times-append x (tickets_in v) (flat_map tickets_in vs),
      no_fronts x vs (omega arith),
      bare x v.fronts
          (omega (arith, length-map v.fronts (λ (f : FrontTickets). f.front))),
    )
  where
    bare : (x : ℕ) (fs : List FrontTickets) → length fs ≤ 0 → times x (flat_map (λ (f : FrontTickets). f.tickets) fs) ≡ 0
    bare x [] h = refl
    bare x (f ∷ fs) h = absurd (omega arith)

within_length : (views : List SeatView) (id : ℕ) (v : SeatView) → get_elem? views id ≡ some v → length (fronts_in v) ≤ length (flat_map fronts_in views)
within_length [] id v e = absurd (some-ne-none v (sym e))
within_length (u ∷ us) zero v e = omega (arith, length-append (fronts_in u) (flat_map fronts_in us), ap (λ y. length (fronts_in y)) (some-injective u v e))
within_length (u ∷ us) (suc id) v e = omega (arith, length-append (fronts_in u) (flat_map fronts_in us), within_length us id v e)

-- a view that holds all fronts has all tickets
alone : (x : ℕ) (views : List SeatView) (id : ℕ) (v : SeatView) → get_elem? views id ≡ some v → length (flat_map fronts_in views) ≤ length (fronts_in v)
    → times x (flat_map tickets_in views) ≡ times x (tickets_in v)
alone x [] id v e h = absurd (some-ne-none v (sym e))
alone x (u ∷ us) zero v e h =
    let same : u ≡ v = some-injective u v e in
    omega (
      arith,
      times-append x (tickets_in u) (flat_map tickets_in us),
      ap (λ y. times x (tickets_in y)) same,
      no_fronts x us (omega (arith, length-append (fronts_in u) (flat_map fronts_in us), ap (λ y. length (fronts_in y)) same)),
    )
alone x (u ∷ us) (suc id) v e h =
    let joined = length-append (fronts_in u) (flat_map fronts_in us) in
    let inside = within_length us id v e in
    omega (
      arith,
      times-append x (tickets_in u) (flat_map tickets_in us),
      alone x us id v e (omega arith),
      times-append x (tickets_in u) [],
      no_fronts x (u ∷ []) (omega (arith, length-append (fronts_in u) [])),
    )

-- The shutter's view, if it holds all fronts and its `accepted` is n, has exactly the tickets 0 to n - 1, and those of each front rise.
pub ends : (fronts n : ℕ) (s : State (Unit {0}) SeatView) (id : ℕ) (v : SeatView) → Seen (GateHolds fronts) id v s → length v.fronts ≡ fronts
    → v.is_shutter ≡ true → v.accepted ≡ Some n
    → Tickets (map (λ (f : FrontTickets). f.tickets) v.fronts) n
ends fronts n s id v seen all is_shutter accepted =
    let h = seen.0 in
    let at = seen.1 in
    let rising = All-map Rises (λ (f : FrontTickets). f.tickets) v.fronts (λ k d lt. ((h.seats id v at).0.tickets k d lt).0) in
    let few : length (flat_map fronts_in s.views) ≤ length (fronts_in v) =
    omega (arith, length_once fronts (flat_map fronts_in s.views) h.dealt, length-map v.fronts (λ (f : FrontTickets). f.front)) in
    let joined = flat_map-map (λ (l : List ℕ). l) (λ (f : FrontTickets). f.tickets) v.fronts in
    ⊎_elim
    (λ (o : IsOpen h.word s.views). let never : None ≡ Some n = sym (o.unknown id v at).1 ∙ accepted in absurd (cc))
    (λ (c : (m : ℕ) × IsShut m h.word s.views).
    let same = sym (c.1.accepted id v at is_shutter) ∙ accepted in (
      rising,
      subst (λ (l : List ℕ). EachOnceBelow n l) (sym joined)
          (λ x. sym (alone x s.views id v at few) ∙ subst (λ (m : ℕ). EachOnceBelow m (flat_map tickets_in s.views)) (some_is c.0 n same) c.1.tickets x),
    ))
    h.phase
  where
    some_is : (a b : ℕ) → Some a ≡ Some b → a ≡ b
    some_is a b e = cc

pub all_rest : {X : Type 0} (P : X → Type 0) (x : X) (xs l : List X) → l ≡ x ∷ xs → All P l → All P xs
all_rest {X} P x xs l e h = λ k d lt. subst (λ (m : List X). All P m) e h (suc k) d (omega arith)

-- the tickets of all intakes
pub all_tickets : (fs : List FrontTickets) (intakes : List IntakeView) (n : ℕ) → fs ≡ map front_tickets intakes
    → Tickets (map (λ (f : FrontTickets). f.tickets) fs) n → Tickets (map (λ (i : IntakeView). tickets_of i.accepted) intakes) n
all_tickets fs intakes n e h = subst (λ l. Tickets l n) (ap (map (λ (f : FrontTickets). f.tickets)) e ∙ map_twice intakes) h
  where
    map_twice : (xs : List IntakeView) → map (λ (f : FrontTickets). f.tickets) (map front_tickets xs) ≡ map (λ (i : IntakeView). tickets_of i.accepted) xs
    map_twice [] = refl
    map_twice (x ∷ xs) = ap (λ l. tickets_of x.accepted ∷ l) (map_twice xs)
