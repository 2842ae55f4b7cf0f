-- Numbers that occur once in a list, and the lists joined from all views.
use Rattle.std.proofs.Common.{◌≡◌, ◌≢◌, ℕ, zero, suc, ◌+◌, ◌*◌, ◌^◌, ◌<◌, ◌≤◌, ◌==◌, nat_lt, if◌then◌else◌, List, [], ◌∷◌, ◌++◌, length, get_or, set, flat_map}
use Rattle.std.proofs.Common.{All, true, false, true≢false, refl, sym, ap, ◌∙◌, subst, ⊎_elim, arith, length-append}
use Rattle.std.proofs.lemmas.Bool.Decides.{nat_tests}
use mathlib.Core.Option.{some, some-ne-none, some-injective}
use lib.ListN.{get_elem?}
use Rattle.atomic_table.proofs.Lists.{at_set, at_snoc}
use Rattle.ct_codec.specs.Items.{times, EachOnceBelow}
use Rattle.ct_gate.specs.Seats.{FrontTickets, SeatView, EachView, refused_draws, tickets_in, fronts_in}
use Rattle.ct_gate.specs.Word.{HasTickets, IsSound}
use Rattle.std.proofs.lemmas.List.{length-map}

pub off : false ≡ true → ⊥
off e = true≢false (sym e)

pub times-append : (x : ℕ) (xs ys : List ℕ) → times x (xs ++ ys) ≡ times x xs + times x ys
times-append x [] ys = omega arith
times-append x (y ∷ xs) ys = omega (arith, times-append x xs ys)

pub times_set : (f : SeatView → List ℕ) (views : List SeatView) (id : ℕ) (v w : SeatView) (x : ℕ) → get_elem? views id ≡ some v
    → times x (flat_map f (set views id w)) + times x (f v) ≡ times x (flat_map f views) + times x (f w)
times_set f [] id v w x e = absurd (some-ne-none v (sym e))
times_set f (u ∷ us) zero v w x e = omega
    (arith, times-append x (f w) (flat_map f us), times-append x (f u) (flat_map f us), ap (λ y. times x (f y)) (some-injective u v e))
times_set f (u ∷ us) (suc id) v w x e = omega
    (arith, times-append x (f u) (flat_map f us), times-append x (f u) (flat_map f (set us id w)), times_set f us id v w x e)

pub times_snoc : (f : SeatView → List ℕ) (views : List SeatView) (v : SeatView) (x : ℕ)
    → times x (flat_map f (views ++ v ∷ [])) ≡ times x (flat_map f views) + times x (f v)
times_snoc f [] v x = omega (arith, times-append x (f v) [])
times_snoc f (u ∷ us) v x = omega (arith, times-append x (f u) (flat_map f us), times-append x (f u) (flat_map f (us ++ v ∷ [])), times_snoc f us v x)

pub refused_set : (views : List SeatView) (id : ℕ) (v w : SeatView) → get_elem? views id ≡ some v
    → refused_draws (set views id w) + v.refused ≡ refused_draws views + w.refused
refused_set [] id v w e = absurd (some-ne-none v (sym e))
refused_set (u ∷ us) zero v w e = omega (arith, ap (λ (y : SeatView). y.refused) (some-injective u v e))
refused_set (u ∷ us) (suc id) v w e = omega (arith, refused_set us id v w e)

pub each_set : (P : ℕ → SeatView → Type 0) (views : List SeatView) (id : ℕ) (w : SeatView)
    → ((j : ℕ) (u : SeatView) → j ≢ id → get_elem? views j ≡ some u → P j u) → P id w → EachView P (set views id w)
each_set P views id w others mine j u e =
    ⊎_elim
    (λ (x : (j ≡ id) × (w ≡ u)). subst (λ (y : ℕ × SeatView). P y.0 y.1) (λ i. (sym x.0 i, x.1 i)) mine)
    (λ (x : (j ≢ id) × (get_elem? views j ≡ some u)). others j u x.0 x.1)
    (at_set views id j w u e)

pub each_snoc : (P : ℕ → SeatView → Type 0) (views : List SeatView) (w : SeatView) → EachView P views → ((j : ℕ) → P j w) → EachView P (views ++ w ∷ [])
each_snoc P views w all mine j u e =
    ⊎_elim (λ (x : get_elem? views j ≡ some u). all j u x) (λ (x : w ≡ u). subst (P j) x (mine j)) (at_snoc views w u j e)

-- how many numbers of the list are below n
within : ℕ → List ℕ → ℕ
within zero xs = 0
within (suc n) xs = times n xs + within n xs

below_suc : (y n : ℕ) → (if nat_lt y (suc n) then 1 else 0) ≡ (if y == n then 1 else 0) + (if nat_lt y n then 1 else 0)
below_suc y n = grind (arith, nat_tests)

within-cons : (n y : ℕ) (ys : List ℕ) → within n (y ∷ ys) ≡ (if nat_lt y n then 1 else 0) + within n ys
unfolding within
within-cons zero y ys = grind (arith, nat_tests)
within-cons (suc n) y ys = omega (arith, within-cons n y ys, below_suc y n)

is_below : (y n : ℕ) → y < n → ◌≡◌ {A = ℕ} (if nat_lt y n then 1 else 0) 1
is_below y n h = grind (arith, nat_tests)

within_once : (n k : ℕ) (xs : List ℕ) → EachOnceBelow n xs → k ≤ n → within k xs ≡ k
unfolding within
within_once n zero xs once le = refl
within_once n (suc k) xs once le = omega (arith, within_once n k xs once (omega arith), once k, is_below k n (omega arith))

below_of : (n y : ℕ) → 0 < (if nat_lt y n then 1 else 0) → y < n
below_of n y h = grind (arith, nat_tests)

-- each number that occurs in the list is below n
pub member_below : (n : ℕ) (xs : List ℕ) → EachOnceBelow n xs → (y : ℕ) → 0 < times y xs → y < n
member_below n xs once y h = below_of n y (subst (λ k. 0 < k) (once y) h)

times_head : (y : ℕ) (ys : List ℕ) → 0 < times y (y ∷ ys)
times_head y ys = grind (arith, nat_tests)

times_more : (y x : ℕ) (xs : List ℕ) → times y xs ≤ times y (x ∷ xs)
times_more y x xs = omega arith

length_within : (n : ℕ) (xs : List ℕ) → ((y : ℕ) → 0 < times y xs → y < n) → length xs ≡ within n xs
unfolding within
length_within zero [] below = refl
length_within (suc n) [] below = omega (arith, length_within n [] (λ y h. absurd (omega arith)))
length_within n (x ∷ xs) below =
    let lt : x < n = below x (times_head x xs) in
    omega (arith, is_below x n lt, within-cons n x xs, length_within n xs (λ y h. below y (omega (arith, times_more y x xs))))

-- the list has n elements
pub length_once : (n : ℕ) (xs : List ℕ) → EachOnceBelow n xs → length xs ≡ n
length_once n xs once = length_within n xs (member_below n xs once) ∙ within_once n n xs once (omega arith)

-- if each view has at most 2 ^ 32 tickets for each of its fronts, the same bound holds for the joined lists
pub tickets_bound : (views : List SeatView)
    → ((id : ℕ) (v : SeatView) → get_elem? views id ≡ some v → length (tickets_in v) ≤ 2 ^ 32 * length (fronts_in v))
    → length (flat_map tickets_in views) ≤ 2 ^ 32 * length (flat_map fronts_in views)
tickets_bound [] h = omega arith
tickets_bound (v ∷ vs) h = omega (
  arith,
  length-append (tickets_in v) (flat_map tickets_in vs),
  length-append (fronts_in v) (flat_map fronts_in vs),
  h 0 v
      refl,
  tickets_bound vs (λ id u e. h (suc id) u e),
)

pub refused_bound : (views : List SeatView) → ((id : ℕ) (v : SeatView) → get_elem? views id ≡ some v → v.refused ≤ length (fronts_in v))
    → refused_draws views ≤ length (flat_map fronts_in views)
refused_bound [] h = omega arith
refused_bound (v ∷ vs) h = omega (arith, length-append (fronts_in v) (flat_map fronts_in vs), h 0 v refl, refused_bound vs (λ id u e. h (suc id) u e))

own_bound : (fs : List FrontTickets) → All HasTickets fs → length (flat_map (λ (f : FrontTickets). f.tickets) fs) ≤ 2 ^ 32 * length fs
own_bound [] h = omega arith
own_bound (f ∷ fs) h = omega (
  arith,
  length-append f.tickets (flat_map (λ (f : FrontTickets). f.tickets) fs),
  (h 0 f (omega arith)).1,
  own_bound fs
      (λ k d lt. h (suc k) d (omega arith)),
)

-- a sound view has at most 2 ^ 32 tickets for each of its fronts
pub view_bound : (v : SeatView) → IsSound v → length (tickets_in v) ≤ 2 ^ 32 * length (fronts_in v)
view_bound v s = omega (arith, own_bound v.fronts s.tickets, length-map v.fronts (λ (f : FrontTickets). f.front))

pub view_refused : (v : SeatView) → IsSound v → v.refused ≤ length (fronts_in v)
view_refused v s = omega (arith, s.refused, length-map v.fronts (λ (f : FrontTickets). f.front))

pub below_more : (x n : ℕ) → (if nat_lt x (n + 1) then 1 else 0) ≡ (if n == x then 1 else 0) + (if nat_lt x n then 1 else 0)
below_more x n = grind (arith, nat_tests)

-- an element of the list occurs in it at least once
pub times_there : (xs : List ℕ) (k d : ℕ) → k < length xs → 0 < times (get_or xs k d) xs
times_there [] k d h = absurd (omega arith)
times_there (x ∷ xs) zero d h = times_head x xs
times_there (x ∷ xs) (suc k) d h = omega (arith, times_there xs k d (omega arith), times_more (get_or xs k d) x xs)

-- a number occurs in the joined list at least as often as in the list of one view
pub times_within : (f : SeatView → List ℕ) (views : List SeatView) (id : ℕ) (v : SeatView) (x : ℕ) → get_elem? views id ≡ some v
    → times x (f v) ≤ times x (flat_map f views)
times_within f [] id v x e = absurd (some-ne-none v (sym e))
times_within f (u ∷ us) zero v x e = omega (arith, times-append x (f u) (flat_map f us), ap (λ y. times x (f y)) (some-injective u v e))
times_within f (u ∷ us) (suc id) v x e = omega (arith, times-append x (f u) (flat_map f us), times_within f us id v x e)
