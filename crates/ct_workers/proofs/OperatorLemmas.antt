-- The operator's work, step by step.
use Rattle.std.proofs.Common.{◌≡◌, ◌<◌, ◌≤◌, ◌+◌, ℕ, List, [], ◌∷◌, ◌++◌, length, refl, sym, subst, ◌∙◌, append_assoc, append-nil, arith, length-append, get_or}
use Rattle.std.proofs.Common.{inl, inr}
use Rattle.std.proofs.lemmas.Bool.{cases_lt}
use Rattle.std.proofs.lemmas.List.Elements.{All-append}
use Rattle.std.specs.Prelude.{Ok, Err, Some, slice_get}
use Rattle.std.proofs.lemmas.Option.{same_Some, slice_get-get_or, slice_get_within}
use Rattle.ct_codec.specs.declared.item.Item.{Item}
use Rattle.ct_codec.specs.declared.refusal.Refusal.{Refusal}
use Rattle.ct_core.specs.Core.{Begins, CoreState, clock_of, settle_refusal}
use Rattle.ct_core.specs.Replies.{a_settled_count, refused}
use Rattle.ct_core.proofs.CoreLemmas.{Begins-refl, Begins-trans, Grows-more, Grows-none}
use Rattle.ct_house.specs.House.{HouseState, SettlesMore}
use Rattle.ct_house.specs.Sequence.{CoreGrows, Lane, Sequences, Takes}
use Rattle.ct_workers.specs.OperatorWork.{GoesOn, Settling, StopsSettling, SettlesSome, SequencesFront}

pub goes_on_nothing : (s : HouseState) → GoesOn s s
goes_on_nothing s = record {
  house = refl;
  count = refl;
  accepted = λ n e. e;
  entries = Begins-refl s.core.entries;
  settlement = Begins-refl s.core.settlement;
  heads = Begins-refl s.core.published.heads;
}

pub goes_on_both : (a b c : HouseState) → GoesOn a b → GoesOn b c → GoesOn a c
goes_on_both a b c p q = record {
  house = q.house ∙ p.house;
  count = q.count ∙ p.count;
  accepted = λ n e. q.accepted n (p.accepted n e);
  entries = Begins-trans a.core.entries b.core.entries c.core.entries p.entries q.entries;
  settlement = Begins-trans a.core.settlement b.core.settlement c.core.settlement p.settlement q.settlement;
  heads = Begins-trans a.core.published.heads b.core.published.heads c.core.published.heads p.heads q.heads;
}

-- nothing was settled
pub settles_none : (s : HouseState) (now : ℕ) → SettlesMore s s [] now
settles_none s now = record {
  house = refl;
  accepted = refl;
  count = refl;
  received = λ f was is at there. subst (λ (l : Lane). Begins was.received l.received) (same_Some was is (sym at ∙ there)) (Begins-refl was.received);
  sequences = λ items q. subst (Sequences s) (sym (append-nil items)) q;
  core = record {
    grows = λ items q. Grows-none s.core items now q;
    published = refl;
    entries = Begins-refl s.core.entries;
    settlement = Begins-refl s.core.settlement;
  };
}

core_grows_both : (a b c : CoreState) (xs ys : List Item) (now : ℕ) → CoreGrows a b xs now → CoreGrows b c ys now → CoreGrows a c (xs ++ ys) now
core_grows_both a b c xs ys now s t = record {
  grows = λ items q. let one = s.grows items q in Grows-more a b c items xs ys now one (t.grows (items ++ xs) one.settled);
  published = t.published ∙ s.published;
  entries = Begins-trans a.entries b.entries c.entries s.entries t.entries;
  settlement = Begins-trans a.settlement b.settlement c.settlement s.settlement t.settlement;
}

-- two settlings at one timestamp
pub settles_both : (a b c : HouseState) (xs ys : List Item) (now : ℕ) → SettlesMore a b xs now → SettlesMore b c ys now → SettlesMore a c (xs ++ ys) now
settles_both a b c xs ys now s t = record {
  house = t.house ∙ s.house;
  accepted = t.accepted ∙ s.accepted;
  count = t.count ∙ s.count;
  received = λ f was is at there.
      let inside = slice_get_within a.lanes f was at in
      let count = s.count in
      let mid : slice_get b.lanes f ≡ Some (get_or b.lanes f was) = slice_get-get_or b.lanes f was (omega arith) in
      Begins-trans was.received (get_or b.lanes f was).received is.received (s.received f was (get_or b.lanes f was) at mid)
      (t.received f (get_or b.lanes f was) is mid there);
  sequences = λ items q. subst (Sequences c) (append_assoc items xs ys) (t.sequences (items ++ xs) (s.sequences items q));
  core = core_grows_both a.core b.core c.core xs ys now s.core t.core;
}

settling_none : (front now : ℕ) (s : HouseState) → Settling front now s s []
settling_none front now s = record { of_front = λ k d below. absurd (omega arith); settled = settles_none s now; early = λ e. refl }

early_both : (a b c : HouseState) (now : ℕ) → (now < clock_of a.core → b ≡ a) → (now < clock_of b.core → c ≡ b) → now < clock_of a.core → c ≡ a
early_both a b c now p q before = let same = p before in q (subst (λ (s : HouseState). now < clock_of s.core) (sym same) before) ∙ same

pub settling_take : (front now : ℕ) (a b c : HouseState) (xs ys : List Item) → Settling front now a b xs → Takes b c front ys now → SettlesMore b c ys now
    → (now < clock_of b.core → c ≡ b) → Settling front now a c (xs ++ ys)
settling_take front now a b c xs ys s t more early = record {
  of_front = All-append (λ (x : Item). x.front ≡ front) xs ys s.of_front t.of_front;
  settled = settles_both a b c xs ys now s.settled more;
  early = early_both a b c now s.early early;
}

pub settling_both : (front now : ℕ) (a b c : HouseState) (xs ys : List Item) → Settling front now a b xs → Settling front now b c ys
    → Settling front now a c (xs ++ ys)
settling_both front now a b c xs ys s t = record {
  of_front = All-append (λ (x : Item). x.front ≡ front) xs ys s.of_front t.of_front;
  settled = settles_both a b c xs ys now s.settled t.settled;
  early = early_both a b c now s.early t.early;
}

-- if the clock accepts a timestamp after a settling, it accepted it before
pub in_time_before : (front now : ℕ) (a b : HouseState) (xs : List Item) → Settling front now a b xs → clock_of b.core ≤ now → clock_of a.core ≤ now
in_time_before front now a b xs s late = elim (cases_lt now (clock_of a.core)) [
  | inl before ↦ (let same = s.early before in let there : clock_of a.core ≤ now =
      subst (λ (s : HouseState). clock_of s.core ≤ now) same late in absurd (omega arith))
  | inr after ↦ after
]

-- after turns that settled nothing, three cases: a turn that is refused, a turn that settles some items, and another turn that settles none
pub some_refused : (front most now : ℕ) (a b c : HouseState) (ys : List Item) (e : Refusal) → Settling front now a b []
    → Takes b c front ys now → SettlesMore b c ys now
    → (now < clock_of b.core → c ≡ b) → length ys < most → e ≡ settle_refusal b.core now → SettlesSome front most now a (Err e) c
some_refused front most now a b c ys e s t more early few why = record {
  items = ys;
  settling = settling_take front now a b c [] ys s t more early;
  answer = (few, inr (b, [], s.settled, why));
}

pub some_settled : (front most now : ℕ) (a b c : HouseState) (ys : List Item) (n : ℕ) → Settling front now a b []
    → Takes b c front ys now → SettlesMore b c ys now
    → (now < clock_of b.core → c ≡ b) → n ≡ length ys → 0 < n → n ≤ most → clock_of b.core ≤ now → SettlesSome front most now a (Ok n) c
some_settled front most now a b c ys n s t more early count some few time = record {
  items = ys;
  settling = settling_take front now a b c [] ys s t more early;
  answer = (count, some, few, in_time_before front now a b [] s time);
}

pub still_none : (front now : ℕ) (a b c : HouseState) (ys : List Item) (n : ℕ) → Settling front now a b [] → Takes b c front ys now → SettlesMore b c ys now
    → (now < clock_of b.core → c ≡ b) → n ≡ length ys → n ≡ 0 → Settling front now a c []
still_none front now a b c [] n s t more early count none = settling_take front now a b c [] [] s t more early
still_none front now a b c (y ∷ ys) n s t more early count none = absurd (omega arith)

-- some items were settled, and `left` more must still be settled
pub record Underway (front count now left : ℕ) (old new : HouseState) : Type 0 where
  pub items : List Item
  pub settling : Settling front now old new items
  pub settled : length items + left ≡ count
  pub time : 0 < length items → clock_of old.core ≤ now
  pub none : count ≡ 0 → new ≡ old

pub not_begun : (front count now : ℕ) (s : HouseState) → Underway front count now count s s
not_begun front count now s = record {
  items = [];
  settling = settling_none front now s;
  settled = omega arith;
  time =
      λ some. absurd (omega arith);
  none = λ e. refl;
}

pub goes_further : (front most count now left rest n : ℕ) (a b c : HouseState) → Underway front count now left a b → SettlesSome front most now b (Ok n) c
    → most ≤ left → rest + n ≡ left → Underway front count now rest a c
goes_further front most count now left rest n a b c u s few less =
    let answer = s.answer in
    let size = length-append u.items s.items in
    let sum = u.settled in
    record {
      items = u.items ++ s.items;
      settling = settling_both front now a b c u.items s.items u.settling s.settling;
      settled = (let size_is = answer.0 in omega arith);
      time = λ some. in_time_before front now a b u.items u.settling answer.3;
      none = λ e. (let some = answer.1 in absurd (omega arith));
    }

stops_later : (now : ℕ) (a b : HouseState) (xs : List Item) (e : Refusal) → SettlesMore a b xs now → StopsSettling now b e → StopsSettling now a e
stops_later now a b xs e s (inl late) = inl late
stops_later now a b xs e s (inr (m, ys, t, why)) = inr (m, xs ++ ys, settles_both a b m xs ys now s t, why)

pub sequence_refused : (front most count now left : ℕ) (a b c : HouseState) (e : Refusal) → Underway front count now left a b → most ≤ left
    → SettlesSome front most now b (Err e) c → SequencesFront front count now a (refused e) c
sequence_refused front most count now left a b c e u less s =
    let sum = u.settled in
    let (few, why) = s.answer in
    let size = length-append u.items s.items in
    record {
      items = u.items ++ s.items;
      settling = settling_both front now a b c u.items s.items u.settling s.settling;
      answer = (omega arith, stops_later now a b u.items e u.settling.settled why);
      none = λ e. absurd (omega arith);
    }

pub sequence_done : (front count now left : ℕ) (a b : HouseState) → Underway front count now left a b → left ≡ 0
    → SequencesFront front count now a (a_settled_count count) b
sequence_done front count now left a b u none =
    let sum = u.settled in
    record {
      items = u.items;
      settling = u.settling;
      answer = (refl, omega arith, λ some. u.time (omega arith));
      none = u.none;
    }
