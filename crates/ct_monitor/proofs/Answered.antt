-- The answers of calls.
use Rattle.std.proofs.Common.{◌≡◌, ◌⊎◌, ◌∙◌, ◌-◌, ◌≤◌, ℕ, List, Vec, Global, length, map, take, Option, None, sym, ap, subst, inl, inr}
use Rattle.ct_monitor.specs.WatcherState.{WatcherState}
use Rattle.ct_monitor.specs.declared.verdict.Verdict.{Verdict}
use Rattle.ct_monitor.specs.declared.verdict.Verdict.TheVariants.{Gap}
use Rattle.ct_monitor.proofs.Steps.{as_far_as}
use Rattle.ct_monitor.specs.Calls.{FindsEntries, Handed, HasState, IsMonitorAnswer, ReportsEntries, StateJudges}
use Rattle.ct_monitor.specs.Entries.{IsFirstFaulty, IsFirstLater, leaves_to_read, moment_awaited, size_awaited}
use Rattle.ct_monitor.specs.StateText.{IsMonitorState}
use Rattle.ct_monitor.specs.declared.answer.Answer.{Answer}
use Rattle.ct_monitor.specs.declared.entries.FaultyEntry.{FaultyEntry}
use Rattle.ct_monitor.specs.declared.entries.LaterEntry.{LaterEntry}

abbrev bytes : Vec ℕ Global → List ℕ
bytes l = l.items

pub answered : (H : List ℕ → List ℕ) (state : List ℕ) (handed : Handed) (s t : WatcherState) (v : Verdict) (a : Answer) → IsMonitorState H s state
    → StateJudges H s handed v t → a.verdict ≡ v → HasState H t a → IsMonitorAnswer H state handed a
answered H state handed s t v a is says e has = (s, t, is, subst (λ (x : Verdict). StateJudges H s handed x t) (sym e) says, has)

-- the entries that are found among the entries that are read
pub finds : (s : WatcherState) (E : List (Vec ℕ Global)) (wanted read moment count : ℕ) (later : Option LaterEntry) (faulty : Option FaultyEntry)
    → wanted ≡ size_awaited s.waiting s.all.0 → read ≡ s.all.0 → moment ≡ moment_awaited s.waiting
    → (count ≡ wanted - read) ⊎ ((length E ≤ wanted - read) × (count ≡ length E))
    → IsFirstLater moment read (map bytes (take count E)) later → IsFirstFaulty read (map bytes (take count E)) faulty
    → FindsEntries s (map bytes E) later faulty
finds s E wanted read moment count later faulty w r m far l f =
    let part = map bytes (take count E) in
    let room : wanted - read ≡ size_awaited s.waiting s.all.0 - s.all.0 = ap (λ (n : ℕ). n - read) w ∙ ap (λ (n : ℕ). size_awaited s.waiting s.all.0 - n) r in
    let same : part ≡ leaves_to_read s (map bytes E) = as_far_as E count (wanted - read) far ∙ ap (λ (n : ℕ). take n (map bytes E)) room in
    let first : IsFirstLater (moment_awaited s.waiting) s.all.0 part later =
    subst (λ (n : ℕ). IsFirstLater (moment_awaited s.waiting) n part later) r (subst (λ (n : ℕ). IsFirstLater n read part later) m l) in (
      subst (λ (L : List (List ℕ)). IsFirstLater (moment_awaited s.waiting) s.all.0 L later) same first,
      subst (λ (L : List (List ℕ)). IsFirstFaulty s.all.0 L faulty) same (subst (λ (n : ℕ). IsFirstFaulty n part faulty) r f),
    )

-- the report
pub reports : (s : WatcherState) (E : List (List ℕ)) (v : Verdict) (later told : Option LaterEntry) (faulty named : Option FaultyEntry)
    → FindsEntries s E later faulty → ((v ≡ Gap) × (told ≡ None) × (named ≡ None)) ⊎ ((v ≡ Gap → ⊥) × (told ≡ later) × (named ≡ faulty))
    → ReportsEntries s E v told named
reports s E v later told faulty named found (inl e) = inl e
reports s E v later told faulty named found (inr e) = inr (
  e.0,
  subst (λ (x : Option LaterEntry). FindsEntries s E x named) (sym e.1) (subst (λ (y : Option FaultyEntry). FindsEntries s E later y) (sym e.2) found),
)
