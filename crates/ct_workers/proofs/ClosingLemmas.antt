-- The result of the closing.
use Rattle.std.proofs.Common.{◌≡◌, ◌⊎◌, ◌<◌, ◌≤◌, ◌+◌, ℕ, List, [], ◌∷◌, ◌++◌, length, Bool, true, false, refl, sym, ap, subst, ◌∙◌, arith, inl, inr}
use Rattle.std.specs.Prelude.{◌≢◌, ◌||◌, All, map, if◌then◌else◌, nat_lt, None, Some, Result, Ok, Err, IfErr, IfOk, MatchResult, OnOk}
use Rattle.std.proofs.lemmas.Bool.{ltb-true}
use Rattle.std.proofs.lemmas.List.Elements.{All-map}
use Rattle.std.proofs.lemmas.Option.{none-some}
use Rattle.ct_codec.specs.declared.item.Item.{Item}
use Rattle.ct_codec.specs.declared.refusal.Refusal.{Refusal}
use Rattle.ct_codec.specs.declared.refusal.Refusal.TheVariants.{ClockBack, Memory, MissingFront, Shutdown}
use Rattle.ct_tree.specs.declared.head.Head.{Head}
use Rattle.ct_core.specs.Leaf.{Entry}
use Rattle.ct_core.specs.Settlement.{Log, firsts_after}
use Rattle.ct_core.specs.declared.settled.Settled.{Settled}
use Rattle.ct_core.specs.Core.{Begins, CoreState, IsCovered, IsInTime, IsNextHead, after_publishing, entry_at, newest_leaf, last_moment, clock_of, publish_refusal, settle_refusal, IsSettled}
use Rattle.ct_house.specs.House.{AreInOrder, FrontView, HouseState, IsAllSettled, SettlesMore}
use Rattle.ct_workers.specs.ClosedLog.{EndsAt, EntersAt, IsClosingFault, IsLate, IsReady, IsRefusedAtClosing, KeepsCount, KeepsSettled}
use Rattle.ct_lines.specs.Faults.{IsRefusalFault}
use Rattle.ct_lines.specs.declared.run_fault.Fault.{Fault}

newest_in_time : (core : CoreState) (now : ℕ) → clock_of core ≤ now → newest_leaf core.entries ≤ now
newest_in_time core now h = omega arith

-- a refused publication: either one of the two tests holds, or there was no memory
refused_by : (a b : Bool) (e : Refusal) (P : Type 0) → (a ≡ true → P) → (b ≡ true → P) → e ≡ (if a || b then ClockBack else Memory)
    → ((e ≡ ClockBack) × P) ⊎ (e ≡ Memory)
refused_by true b e P p q h = inl (h, p refl)
refused_by false true e P p q h = inl (h, q refl)
refused_by false false e P p q h = inr h

-- if the newest leaf is not past now, only the last head (or memory) can refuse a publication
publish_refused : (core : CoreState) (now : ℕ) (e : Refusal) → e ≡ publish_refusal core now
    → ((e ≡ ClockBack) × (newest_leaf core.entries ≤ now → now ≤ last_moment core.published.heads)) ⊎ (e ≡ Memory)
publish_refused core now e h =
    refused_by (nat_lt now (newest_leaf core.entries)) (nat_lt now (last_moment core.published.heads + 1)) e
    (newest_leaf core.entries ≤ now → now ≤ last_moment core.published.heads)
    (λ t newest. let l : now < newest_leaf core.entries = ltb-true now (newest_leaf core.entries) t in absurd (omega arith))
    (λ t newest. let l : now < last_moment core.published.heads + 1 = ltb-true now (last_moment core.published.heads + 1) t in omega arith) h

-- after everything was settled at now, only the last head can be too late
late_head : (old shut settled : HouseState) (xs : List Item) (now : ℕ) → shut ≡ record old { accepted = shut.accepted } → SettlesMore shut settled xs now
    → clock_of settled.core ≤ now
    → (newest_leaf settled.core.entries ≤ now → now ≤ last_moment settled.core.published.heads) → IsLate old.core now
late_head old shut settled xs now e s time late =
    inr (subst (λ (l : Log). now ≤ last_moment l.heads) (s.core.published ∙ ap (λ (h : HouseState). h.core.published) e)
    (late (newest_in_time settled.core now time)))

pub closing_refused : (r : Result Head Refusal) (old shut settled after : HouseState) (xs : List Item) (now : ℕ)
    → shut ≡ record old { accepted = shut.accepted } → SettlesMore shut settled xs now
    → clock_of settled.core ≤ now → IfErr r (λ e. (e ≡ publish_refusal settled.core now) × (after ≡ settled)) → IfErr r (λ e. IsRefusedAtClosing old now e)
closing_refused (Ok h) old shut settled after xs now e s time p = tt
closing_refused (Err r) old shut settled after xs now e s time p = elim (publish_refused settled.core now r p.0) [
  | inl c ↦ inl (c.0, late_head old shut settled xs now e s time c.1)
  | inr m ↦ inr m
]

-- the clock refuses, or there was no memory
refused_by_clock : (late : Bool) (e : Refusal) (P : Type 0) → (late ≡ true → P) → e ≡ (if late then ClockBack else Memory)
    → ((e ≡ ClockBack) × P) ⊎ (e ≡ Memory)
refused_by_clock true e P p h = inl (h, p refl)
refused_by_clock false e P p h = inr h

-- if the ends are those of all fronts, only the clock or memory can refuse a settling
pub settling_refused : (old shut : HouseState) (ends : List FrontView) (now : ℕ) (e : Refusal) → shut ≡ record old { accepted = shut.accepted }
    → AreInOrder (length old.lanes) ends
    → ((AreInOrder (length shut.lanes) ends → ⊥) × (e ≡ MissingFront)) ⊎ (AreInOrder (length shut.lanes) ends × (e ≡ settle_refusal shut.core now))
    → IsRefusedAtClosing old now e
settling_refused old shut ends now e same order (inl missing) =
    absurd (missing.0 (subst (λ (h : HouseState). AreInOrder (length h.lanes) ends) (sym same) order))
settling_refused old shut ends now e same order (inr refused) =
    refused_by_clock (nat_lt now (clock_of old.core)) e (IsLate old.core now) (λ t. inl (ltb-true now (clock_of old.core) t))
    (refused.1 ∙ ap (λ (h : HouseState). settle_refusal h.core now) same)

-- after a shutdown the house is shut, whether it was shut before or not
shut_now : (told : Result ℕ Refusal) (old shut : HouseState)
    → MatchResult told (λ n. (old.accepted ≡ None) × (shut.accepted ≡ Some n)) (λ e. (e ≡ Shutdown) × (old.accepted ≢ None) × (shut ≡ old))
    → shut.accepted ≢ None
shut_now (Ok n) old shut t none = none-some n (sym none ∙ t.1)
shut_now (Err e) old shut t none = t.1 (ap (λ (h : HouseState). h.accepted) (sym t.2) ∙ none)

-- a house is ready for closing after everything was settled at a timestamp that the clock accepts, and published at that timestamp
pub closing_ready : (told : Result ℕ Refusal) (r : Result Head Refusal) (old shut settled after : HouseState) (ends : List FrontView) (xs : List Item)
    (now : ℕ) → shut ≡ record old { accepted = shut.accepted }
    → MatchResult told (λ n. (old.accepted ≡ None) × (shut.accepted ≡ Some n)) (λ e. (e ≡ Shutdown) × (old.accepted ≢ None) × (shut ≡ old))
    → SettlesMore shut settled xs now → IsAllSettled settled ends → clock_of shut.core ≤ now
    → IfOk r (λ h. IsNextHead settled.core now h × (after ≡ record settled { core = after_publishing settled.core h }))
    → OnOk r (IsInTime settled.core now) → IfOk r (λ h. IsReady old ends now h after)
closing_ready told (Err e) old shut settled after ends xs now same t s all time p late = tt
closing_ready told (Ok h) old shut settled after ends xs now same t s all time p late =
    let published : settled.core.published ≡ old.core.published = s.core.published ∙ ap (λ (k : HouseState). k.core.published) same in
    let clock : clock_of old.core ≤ now = subst (λ (k : HouseState). clock_of k.core ≤ now) same time in
    let last : last_moment old.core.published.heads < now = subst (λ (l : Log). last_moment l.heads < now) published late.heads in
    record {
      house = ap (λ (k : HouseState). k.house) p.1 ∙ s.house ∙ ap (λ (k : HouseState). k.house) same;
      shut = λ none. shut_now told old shut t (sym s.accepted ∙ ap (λ (k : HouseState). k.accepted) (sym p.1) ∙ none);
      settled = subst (λ (k : HouseState). IsAllSettled k ends) (sym p.1) (record { in_order = all.in_order; drained = all.drained });
      covered = subst (λ (k : HouseState). IsCovered k.core) (sym p.1) (refl, refl);
      heads = ap (λ (k : HouseState). k.core.published.heads) p.1 ∙ ap (λ (l : Log). l.heads ++ h ∷ []) published;
      moment = p.0.moment;
      in_time = not_late old.core now clock last;
    }
  where
    not_late : (core : CoreState) (now : ℕ) → clock_of core ≤ now → last_moment core.published.heads < now → IsLate core now → ⊥
    not_late core now clock last (inl before) = omega arith
    not_late core now clock last (inr past) = omega arith

-- a refusal of the closing is a fault of the closing
pub closing_fault : (s : HouseState) (now : ℕ) (e : Refusal) (f : Fault) → IsRefusedAtClosing s now e → IsRefusalFault e f → IsClosingFault s.core now f
closing_fault s now e f (inl late) i = inl (i.clock_back late.0, late.1)
closing_fault s now e f (inr memory) i = inr (i.memory memory)

-- the entries of items that are settled at now have that timestamp
of_moment : (now : ℕ) (xs : List Item) → All (λ (e : Entry). e.timestamp ≡ now) (map (entry_at now) xs)
of_moment now xs = All-map (λ (e : Entry). e.timestamp ≡ now) (entry_at now) xs (λ k d within. refl)

-- the entries that a house adds by settling have that timestamp too
enters_at : (old new : HouseState) (items xs : List Item) (now : ℕ) → IsSettled old.core items → SettlesMore old new xs now
    → EntersAt now old.core.entries new.core.entries
enters_at old new items xs now settled s =
    (map (entry_at now) (firsts_after items xs), (s.core.grows items settled).entries, of_moment now (firsts_after items xs))

-- the closing keeps all settled items, and the entries that it adds have its timestamp
pub closing_keeps : (r : Result Head Refusal) (old shut settled after : HouseState) (items xs : List Item) (now : ℕ)
    → shut ≡ record old { accepted = shut.accepted }
    → IsSettled old.core items → SettlesMore shut settled xs now
    → IfOk r (λ h. IsNextHead settled.core now h × (after ≡ record settled { core = after_publishing settled.core h }))
    → OnOk r (KeepsSettled now old.core after.core)
closing_keeps (Err e) old shut settled after items xs now same known s p = tt
closing_keeps (Ok h) old shut settled after items xs now same known s p =
    let before : shut.core ≡ old.core = ap (λ (t : HouseState). t.core) same in
    let behind : after.core ≡ after_publishing settled.core h = ap (λ (t : HouseState). t.core) p.1 in
    let there : IsSettled shut.core items = subst (λ (c : CoreState). IsSettled c items) (sym before) known in
    let kept : KeepsSettled now shut.core (after_publishing settled.core h) = (enters_at shut settled items xs now there s, s.core.settlement) in
    subst (λ (c : CoreState). KeepsSettled now c after.core) before (subst (λ (c : CoreState). KeepsSettled now shut.core c) (sym behind) kept)

-- an earlier shutdown remains, with its count
pub closing_counts : (told : Result ℕ Refusal) (r : Result Head Refusal) (old shut settled after : HouseState) (xs : List Item) (now : ℕ)
    → MatchResult told (λ n. (old.accepted ≡ None) × (shut.accepted ≡ Some n)) (λ e. (e ≡ Shutdown) × (old.accepted ≢ None) × (shut ≡ old))
    → SettlesMore shut settled xs now → IfOk r (λ h. IsNextHead settled.core now h × (after ≡ record settled { core = after_publishing settled.core h }))
    → OnOk r (KeepsCount old after)
closing_counts told (Err e) old shut settled after xs now t s p = tt
closing_counts (Ok m) (Ok h) old shut settled after xs now t s p = λ n is. absurd (none-some n (sym t.0 ∙ is))
closing_counts (Err e) (Ok h) old shut settled after xs now t s p =
    λ n is. ap (λ (k : HouseState). k.accepted) p.1 ∙ s.accepted ∙ ap (λ (k : HouseState). k.accepted) t.2 ∙ is

-- the log after the closing continues the log before it
pub ends_at : (old new : HouseState) (ends : List FrontView) (now : ℕ) (h : Head) (log : Log) → IsReady old ends now h new → KeepsSettled now old.core new.core
    → log ≡ new.core.published → EndsAt old now log
ends_at old new ends now h log r kept same =
    let last : EndsAt old now new.core.published = record {
      last = h;
      moment = r.moment;
      heads = r.heads;
      entries = subst (λ (es : List Entry). EntersAt now old.core.entries es) (sym (r.covered.0)) kept.0;
      settlement = subst (λ (ts : List Settled). Begins old.core.settlement ts) (sym (r.covered.1)) kept.1;
    } in
    subst (λ (l : Log). EndsAt old now l) (sym same) last
