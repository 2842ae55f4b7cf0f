-- The end of a shift, front after front, and shifts one after the other.
use Rattle.std.proofs.Common.{◌≡◌, ◌≢◌, ◌⊎◌, ◌<◌, ◌≤◌, ◌+◌, ℕ, zero, suc, List, [], ◌∷◌, ◌++◌, length, refl, sym, ap, subst, ◌∙◌, arith, inl, inr, append_assoc}
use Rattle.std.proofs.Common.{length-append}
use Rattle.std.specs.Prelude.{All, Some, slice_get}
use Rattle.std.specs.List.{AllZip}
use Rattle.std.proofs.lemmas.Bool.{cases_lt}
use Rattle.std.proofs.lemmas.List.{length-map, map-append}
use Rattle.std.proofs.lemmas.Option.{same_Some, slice_get_within}
use Rattle.ct_codec.specs.declared.item.Item.{Item}
use Rattle.ct_core.specs.Core.{clock_of}
use Rattle.ct_core.specs.Settlement.{Log}
use Rattle.ct_gate.specs.Ends.{IntakeView, SameIntake}
use Rattle.ct_house.specs.House.{FrontView, HouseState, SettlesMore, AreInOrder, IsAllSettled, IsOfHouse, drained_lane}
use Rattle.ct_workers.specs.Fronts.{AreFrontsOf, AllGoOn}
use Rattle.ct_workers.specs.Parties.{DoesShift, Parties, fronts_of}
use Rattle.ct_workers.specs.Shifts.{DoShifts, EndsShift, IsEndRefused, IsShiftFault, Succeeds}
use Rattle.ct_lines.specs.declared.run_fault.Fault.{Fault}
use Rattle.ct_workers.specs.declared.party.FrontParty.{FrontParty}
use Rattle.ct_lines.specs.declared.plan.Shift.{Shift}
use Rattle.ct_lines.specs.declared.plan.Work.{Work}
use Rattle.ct_workers.proofs.OperatorLemmas.{settles_both, settles_none}
use Rattle.ct_workers.proofs.OrderLemmas.{order_at, order_count}
use Rattle.ct_workers.proofs.PartyLemmas.{fronts_kept}
use Rattle.ct_workers.proofs.ScriptPartyLemmas.{shift_same}

-- ---- front after front

-- these fronts were resumed: everything that they had accepted is settled
pub record Going (old new : HouseState) (done : List FrontView) (now : ℕ) : Type 0 where
  pub more : (xs : List Item) × SettlesMore old new xs now
  pub drained : (k : ℕ) (f : FrontView) → slice_get done k ≡ Some f → slice_get new.lanes k ≡ Some (drained_lane f)
  pub first : length done ≡ 0 → new ≡ old
  pub in_time : 0 < length done → clock_of old.core ≤ now
  pub time : 0 < length done → clock_of new.core ≤ now

pub going_none : (s : HouseState) (now : ℕ) → Going s s [] now
going_none s now = record {
  more = ([], settles_none s now);
  drained = λ k f at. absurd (let past : k < 0 = slice_get_within [] k f at in omega arith);
  first = λ e. refl;
  in_time = λ some. absurd (omega arith);
  time = λ some. absurd (omega arith);
}

-- an element of a list with one more element
at_more : {A : Type 0} (xs : List A) (x : A) (k : ℕ) (y : A) → slice_get (xs ++ x ∷ []) k ≡ Some y → (slice_get xs k ≡ Some y) ⊎ ((k ≡ length xs) × (y ≡ x))
at_more [] x zero y at = inr (refl, sym (same_Some x y at))
at_more [] x (suc k) y at = absurd (let past : k < 0 = slice_get_within [] k y at in omega arith)
at_more (z ∷ zs) x zero y at = inl at
at_more (z ∷ zs) x (suc k) y at = elim (at_more zs x k y at) [
  | inl e ↦ inl e
  | inr e ↦ inr (ap suc e.0, e.1)
]

pub going_more : (old mid new : HouseState) (done : List FrontView) (f : FrontView) (now : ℕ) → Going old mid done now → f.intake.number ≡ length done
    → (xs : List Item) × SettlesMore mid new xs now → ((g : ℕ) → g ≢ f.intake.number → slice_get new.lanes g ≡ slice_get mid.lanes g)
    → slice_get new.lanes f.intake.number ≡ Some (drained_lane f) → clock_of mid.core ≤ now → clock_of new.core ≤ now → Going old new (done ++ f ∷ []) now
going_more old mid new done f now g number (ys, more) others drained in_time time = record {
  more = (g.more.0 ++ ys, settles_both old mid new g.more.0 ys now g.more.1 more);
  drained = λ k e at. elim (at_more done f k e at) [
    | inl before ↦ (
        let below = slice_get_within done k e before in
        others k (λ same. let past : length done ≡ k = sym number ∙ sym same in absurd (omega arith)) ∙ g.drained k e before
        )
    | inr last ↦ ap (slice_get new.lanes) (last.0 ∙ sym number) ∙ drained ∙ ap (λ (x : FrontView). Some (drained_lane x)) (sym last.1)
  ];
  first = λ none. absurd (let size = length-append done (f ∷ []) in omega arith);
  in_time = λ some. elim (cases_lt 0 (length done)) [
    | inl before ↦ g.in_time before
    | inr none ↦ (let same : mid ≡ old = g.first (omega arith) in subst (λ (s : HouseState). clock_of s.core ≤ now) same in_time)
  ];
  time = λ some. time;
}

pub going_all : (old new : HouseState) (fronts : List FrontView) (now : ℕ) → Going old new fronts now → AreFrontsOf old fronts → IsAllSettled new fronts
    × (clock_of old.core ≤ now)
going_all old new fronts now g i = (
  record { in_order = subst (λ (n : ℕ). AreInOrder n fronts) (sym g.more.1.count) i.in_order; drained = g.drained },
  g.in_time i.some,
)

-- the front after those that were resumed has the next number
pub next_number : (s : HouseState) (all done : List FrontParty) (p : FrontParty) (rest : List FrontParty) → AreFrontsOf s (fronts_of all)
    → all ≡ done ++ p ∷ rest → p.front.intake.number ≡ length (fronts_of done)
next_number s all done p rest i e =
    order_at (length s.lanes) (fronts_of all) (length (fronts_of done)) p.front i.in_order
    (subst (λ (l : List FrontParty). slice_get (fronts_of l) (length (fronts_of done)) ≡ Some p.front) (sym e) (here done))
  where
    here : (xs : List FrontParty) → slice_get (fronts_of (xs ++ p ∷ rest)) (length (fronts_of xs)) ≡ Some p.front
    here [] = refl
    here (x ∷ xs) = here xs

-- a fact about all elements holds for one between others
pub all_between : {A : Type 0} (P : A → Type 0) (all before : List A) (x : A) (rest : List A) → All P all → all ≡ before ++ x ∷ rest → P x
all_between {A = A} P all before x rest own e = go before (subst (All P) e own)
  where
    go : (xs : List A) → All P (xs ++ x ∷ rest) → P x
    go [] each = each 0 x (omega arith)
    go (y ∷ xs) each = go xs (λ k d below. each (suc k) d (omega arith))

-- ---- shift after shift

same_none : (a b : IntakeView) → b ≡ a → SameIntake a b
same_none a b e = subst (SameIntake a) (sym e) (refl, refl, refl, refl)

successors_same : (published : Log) (before after : List FrontParty) → AllZip (Succeeds published) before after → AllGoOn (fronts_of before) (fronts_of after)
successors_same published [] [] all = tt
successors_same published [] (b ∷ after) all = absurd all
successors_same published (a ∷ before) [] all = absurd all
successors_same published (a ∷ before) (b ∷ after) (first, rest) = (
  record {
    same = same_none a.front.intake b.front.intake first.0.intake;
    moves = first.0.sight;
    shutdown = λ known. ap (λ (i : IntakeView). i.knows_shutdown) first.0.intake ∙ known;
  },
  successors_same published before after rest,
)

-- the fronts of the house remain its fronts
abbrev Stay : Parties → Parties → Type 0
Stay a b = (AreFrontsOf a.house (fronts_of a.fronts) → AreFrontsOf b.house (fronts_of b.fronts)) × (length b.house.lanes ≡ length a.house.lanes)

stay_shift : (a b : Parties) (w : Work) → DoesShift a w b → Stay a b
stay_shift a b w d = (
  fronts_kept a.house b.house (fronts_of a.fronts) (fronts_of b.fronts) d.goes_on.house d.goes_on.count (shift_same a.fronts w.fronts.items b.fronts d.fronts),
  d.goes_on.count,
)

stay_end : (number now : ℕ) (a b : Parties) → EndsShift number now a b → Stay a b
stay_end number now a b e = (
  fronts_kept a.house b.house (fronts_of a.fronts) (fronts_of b.fronts) e.settled.1.house e.settled.1.count
      (successors_same a.house.core.published a.fronts b.fronts e.fronts),
  e.settled.1.count,
)

pub shifts_stay : (number : ℕ) (a b : Parties) (shifts : List Shift) → DoShifts number a shifts b → Stay a b
shifts_stay number a b [] same = (
  (λ i. subst (λ (p : Parties). AreFrontsOf p.house (fronts_of p.fronts)) (sym same) i),
  ap
      (λ (p : Parties). length p.house.lanes) same,
)
shifts_stay number a b (s ∷ more) (m, n, work, ended, rest) =
    let one = stay_shift a m s.work work in
    let two = stay_end number s.now m n ended in
    let three = shifts_stay (number + 1) n b more rest in
    ((λ i. three.0 (two.0 (one.0 i))), three.1 ∙ two.1 ∙ one.1)

pub does_stay : (a b : Parties) (w : Work) → DoesShift a w b → AreFrontsOf a.house (fronts_of a.fronts) → AreFrontsOf b.house (fronts_of b.fronts)
does_stay a b w d = (stay_shift a b w d).0

-- one more shift
pub do_shifts_more : (number last : ℕ) (a b m n : Parties) (done : List Shift) (s : Shift) → DoShifts number a done b → DoesShift b s.work m
    → last ≡ number + length done → EndsShift last s.now m n
    → DoShifts number a (done ++ s ∷ []) n
do_shifts_more number last a b m n [] s same work is ended =
    let k : last ≡ number = omega (arith, is) in
    (m, n, subst (λ (p : Parties). DoesShift p s.work m) same work, subst (λ (j : ℕ). EndsShift j s.now m n) k ended, refl)
do_shifts_more number last a b m n (t ∷ done) s (x, y, first, one, rest) work is ended =
    let k : last ≡ (number + 1) + length done = omega (arith, is) in
    (x, y, first, one, do_shifts_more (number + 1) last y b m n done s rest work k ended)

-- there are as many fronts as lanes
pub lanes_count : (s : HouseState) (parties : List FrontParty) → AreFrontsOf s (fronts_of parties) → length parties ≡ length s.lanes
lanes_count s parties i = sym (length-map parties (λ (p : FrontParty). p.front)) ∙ order_count (length s.lanes) (fronts_of parties) i.in_order

-- a shift that could not end
pub shift_refused : (start begun end : Parties) (shifts done : List Shift) (s : Shift) (rest : List Shift) (e : Fault) → DoShifts 1 start done begun
    → DoesShift begun s.work end → shifts ≡ done ++ s ∷ rest
    → IsEndRefused end.house s.now e → IsShiftFault start shifts e
shift_refused start begun end shifts done s rest e before work is (inl memory) = inl (inr memory)
shift_refused start begun end shifts done s rest e before work is (inr clock) = inr (
  clock.0,
  record {
    done = done;
    late = s;
    among = (rest, is ∙ sym (append_assoc done (s ∷ []) rest));
    begun = begun;
    end = end;
    shifts_done = before;
    work = work;
    refused = clock.1;
  },
)

-- the next front belongs to the house
pub next_of_house : (s : HouseState) (all done : List FrontParty) (p : FrontParty) (rest : List FrontParty) → AreFrontsOf s (fronts_of all)
    → all ≡ done ++ p ∷ rest → IsOfHouse s.house p.front
next_of_house s all done p rest i e =
    all_between (IsOfHouse s.house) (fronts_of all) (fronts_of done) p.front (fronts_of rest) i.of_house
    (ap fronts_of e ∙ map-append (λ (q : FrontParty). q.front) done (p ∷ rest))

-- there are as many fronts as lists in the next shift
pub next_count : (n number : ℕ) (a b : Parties) (shifts done : List Shift) (s : Shift) (rest : List Shift) → AreFrontsOf a.house (fronts_of a.fronts)
    → DoShifts number a done b → All (λ (t : Shift). length t.work.fronts.items ≡ n) shifts
    → n ≡ length a.fronts → shifts ≡ done ++ s ∷ rest → length s.work.fronts.items ≡ length b.fronts
next_count n number a b shifts done s rest i so_far own is e =
    let stay = shifts_stay number a b done so_far in
    all_between (λ (t : Shift). length t.work.fronts.items ≡ n) shifts done s rest own e ∙ is ∙ lanes_count a.house a.fronts i ∙ sym stay.1
    ∙ sym (lanes_count b.house b.fronts (stay.0 i))
