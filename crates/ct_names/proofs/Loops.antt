-- One item after the other, as a loop adds them.
use Rattle.std.proofs.Common.{◌≡◌, ℕ, zero, suc, ◌≤◌, ◌<◌, List, [], ◌∷◌, ◌++◌, length, Result, Ok, Err, refl, sym, ap, ◌∙◌, append_assoc, arith}
use Rattle.std.proofs.lemmas.List.{append-nil}
use Rattle.ct_promise.specs.DerReading.{◌>>=◌}
use Rattle.ct_promise.specs.declared.field.Unread.{Unread}
use Rattle.ct_names.specs.declared.fault.NamesFault.{NamesFault}
use Rattle.ct_names.specs.declared.fault.NamesFault.TheVariants as faults
use Rattle.ct_names.specs.Names.{Named}
use Rattle.ct_names.specs.Reading.{Fails, each, all_of}

abbrev pub Item : Type 0
Item = List ℕ → Result (List Named × List ℕ) Unread

abbrev with_front : List Named → Result (List Named) Unread → Result (List Named) Unread
with_front front read = read >>= λ ns. Ok (front ++ ns)

-- the names added so far and the names in the rest are the names in all the bytes
pub record Going (item : Item) (old new : List Named) (rest bytes : List ℕ) : Type 0 where
  pub more : List Named
  pub room : ℕ
  pub enough : length rest ≤ room
  pub added : new ≡ old ++ more
  pub total : with_front more (each item room rest) ≡ all_of item bytes

no_front : (read : Result (List Named) Unread) → with_front [] read ≡ read
no_front (Ok ns) = refl
no_front (Err u) = refl

regroup : (front more : List Named) (read : Result (List Named) Unread) → with_front front (read >>= λ ns. Ok (more ++ ns)) ≡ with_front (front ++ more) read
regroup front more (Ok ns) = ap (λ (l : List Named). Ok l) (sym (append_assoc front more ns))
regroup front more (Err u) = refl

pub next : (item : Item) (n : ℕ) (rest : List ℕ) → 0 < length rest → length rest ≤ n
    → (m : ℕ) × (n ≡ suc m) × (each item n rest ≡ (item rest >>= λ r. each item m r.1 >>= λ ns. Ok (r.0 ++ ns)))
unfolding each
next item n [] some room = absurd (omega arith)
next item zero (x ∷ b) some room = absurd (omega arith)
next item (suc n) (x ∷ b) some room = (n, refl, refl)

pub starts : (item : Item) (old : List Named) (bytes : List ℕ) → Going item old old bytes bytes
starts item old bytes = record { more = []; room = length bytes; enough = omega arith; added = sym (append-nil old); total = no_front (all_of item bytes) }

pub goes_on : (item : Item) (old now new more : List Named) (rest after bytes : List ℕ) → Going item old now rest bytes → 0 < length rest
    → length after < length rest → item rest ≡ Ok (more, after) → new ≡ now ++ more → Going item old new after bytes
goes_on item old now new more rest after bytes g some shorter read added =
    let step = next item g.room rest some g.enough in
    let one : each item g.room rest ≡ (each item step.0 after >>= λ ns. Ok (more ++ ns)) =
    step.2 ∙ ap (λ (x : Result (List Named × List ℕ) Unread). x >>= λ r. each item step.0 r.1 >>= λ ns. Ok (r.0 ++ ns)) read in
    record {
      more = g.more ++ more;
      room = step.0;
      enough = omega (arith, step.1, g.enough, shorter);
      added = added ∙ ap (λ (l : List Named). l ++ more) g.added ∙ append_assoc old g.more more;
      total = sym (regroup g.more more (each item step.0 after)) ∙ ap (with_front g.more) (sym one) ∙ g.total;
    }

pub ends : (e : NamesFault) (item : Item) (old now : List Named) (rest bytes : List ℕ) → Going item old now rest bytes → 0 < length rest
    → Fails e (item rest) → Fails e (all_of item bytes)
ends faults.Memory item old now rest bytes g some fails = tt
ends (faults.At u) item old now rest bytes g some fails =
    let step = next item g.room rest some g.enough in
    sym g.total ∙ ap (with_front g.more) (step.2 ∙ ap (λ (x : Result (List Named × List ℕ) Unread). x >>= λ r. each item step.0 r.1 >>= λ ns. Ok (r.0 ++ ns)) fails)

nothing_left : (item : Item) (n : ℕ) (rest : List ℕ) → length rest ≡ 0 → each item n rest ≡ Ok []
unfolding each
nothing_left item zero rest none = refl
nothing_left item (suc n) [] none = refl
nothing_left item (suc n) (x ∷ b) none = absurd (omega (arith, none))

pub is_done : (item : Item) (old now : List Named) (rest bytes : List ℕ) → Going item old now rest bytes → length rest ≡ 0
    → (more : List Named) × (all_of item bytes ≡ Ok more) × (now ≡ old ++ more)
is_done item old now rest bytes g none =
    (g.more, sym g.total ∙ ap (with_front g.more) (nothing_left item g.room rest none) ∙ ap (λ (l : List Named). Ok l) (append-nil g.more), g.added)
