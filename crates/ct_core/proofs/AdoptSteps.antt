-- The steps of the core, as steps on the lists of the fields.
use Rattle.std.proofs.Common.{◌≡◌, ℕ, ◌-◌, ◌<◌, List, [], ◌∷◌, ◌++◌, length, refl, ap, sym, ◌∙◌, subst, arith}
use Rattle.std.proofs.lemmas.List.{append-nil, length_push}
use Rattle.std.proofs.lemmas.Option.{same_Some}
use Rattle.std.specs.Prelude.{slice_get, Some}
use Rattle.ct_core.specs.declared.settled.Settled.{Settled}
use Rattle.ct_core.specs.Leaf.{Entry}
use Rattle.ct_core.specs.Settlement.{Log}
use Rattle.ct_tree.specs.declared.head.Head.{Head}
use Rattle.ct_core.specs.Core.{CoreState, IsCore, IsSettled, Extends, IsInTime, IsNextHead, IsNextState, published_with, after_publishing, new_core}
use Rattle.ct_core.proofs.LawfulLemmas.{IsCore-publish, IsCore-open, no_items}
use Rattle.ct_core.proofs.SettlementLemmas.{slice_get-end}
use Rattle.ct_core.specs.Parts.{with_all, with_rest}

-- the core is its published state together with the entries and records after it
pub parted : (core : CoreState) (log inner : Log) (all more : List Entry) (ss records : List Settled) → with_all inner all ss ≡ core → log ≡ inner
    → core.published.entries ++ more ≡ core.entries → records ≡ ss → with_rest log more records ≡ core
parted core log inner all more ss records is same entries settled =
    let make : Log → List Entry → List Settled → CoreState = λ p es rs. record { published = p; entries = es; settlement = rs } in
    let whole : inner.entries ++ more ≡ all = ap (λ (s : CoreState). s.published.entries ++ more) is ∙ entries ∙ sym (ap (λ (s : CoreState). s.entries) is) in
    ap (λ (p : Log). make p (p.entries ++ more) (p.settlement ++ records)) same
    ∙ ap (λ (rs : List Settled). make inner (inner.entries ++ more) (inner.settlement ++ rs)) settled
    ∙ ap (λ (es : List Entry). make inner es (inner.settlement ++ ss)) whole
    ∙ is

-- the relation of the next state to the published one
pub record Follows (older newer : Log) : Type 0 where
  pub extends : Extends older newer
  pub longer : length older.heads < length newer.heads

pub follows : (core : CoreState) (now : ℕ) → IsCore core → (p : Log) → IsNextState core now p → Follows core.published p
follows core now is p (h, next, e) =
    let log = core.published in
    subst (Follows log) (sym e)
    record {
      extends = record { entries = is.entries; settlement = is.settlement; heads = (h ∷ [], refl) };
      longer = let l = length_push log.heads h in omega arith;
    }

last-push : (hs : List Head) (h r : Head) → slice_get (hs ++ h ∷ []) (length (hs ++ h ∷ []) - 1) ≡ Some r → h ≡ r
last-push hs h r at =
    let n : length (hs ++ h ∷ []) - 1 ≡ length hs = let l = length_push hs h in omega arith in
    same_Some h r (sym (slice_get-end hs h) ∙ ap (slice_get (hs ++ h ∷ [])) (sym n) ∙ at)

-- a state that was made at now, in time, is one that the core may adopt
pub adoptable : (core : CoreState) (now : ℕ) (made next : Log) → IsInTime core now → IsNextState core now made → next ≡ made
    → (h : Head) × IsNextHead core h.timestamp h × IsInTime core h.timestamp × (next ≡ published_with core h)
adoptable core now made next time (h, is_next, e) same = (
  h,
  subst (λ (n : ℕ). IsNextHead core n h) (sym is_next.moment) is_next,
  subst (IsInTime core) (sym is_next.moment) time,
  same
      ∙ e,
)

-- the head of the state that was made is the head with which it was adopted
pub adopted_head : (core : CoreState) (now : ℕ) (made next : Log) (head : Head) → IsNextState core now made → next ≡ made → next ≡ published_with core head
    → IsNextHead core now head
adopted_head core now made next head (h, is_next, e) same with_head =
    let hs = core.published.heads in
    let n : length (hs ++ head ∷ []) - 1 ≡ length hs = let l = length_push hs head in omega arith in
    let end : slice_get (hs ++ head ∷ []) (length (hs ++ head ∷ []) - 1) ≡ Some head = ap (slice_get (hs ++ head ∷ [])) n ∙ slice_get-end hs head in
    let heads : hs ++ h ∷ [] ≡ hs ++ head ∷ [] = ap (λ (p : Log). p.heads) (sym e ∙ sym same ∙ with_head) in
    let is : h ≡ head = last-push hs h head (ap (λ (ks : List Head). slice_get ks (length ks - 1)) heads ∙ end) in
    subst (IsNextHead core now) is is_next

-- the effect on the core of adopting a state
pub record Adopts (old : CoreState) (next : Log) (ss : List Settled) (head : Head) : Type 0 where
  pub core : IsCore (with_all next old.entries ss)
  pub state : next ≡ published_with old head
  pub after : with_all next old.entries ss ≡ after_publishing old head

-- the core after it adopted the state of a publication and cleared its records
pub adopted : (core : CoreState) (next : Log) (ss : List Settled) (head : Head) → IsCore core
    → ((h : Head) × IsNextHead core h.timestamp h × IsInTime core h.timestamp × (next ≡ published_with core h))
    → slice_get next.heads (length next.heads - 1) ≡ Some head → ss ≡ [] → Adopts core next ss head
adopted core next ss head is (h, is_next, time, e) last none =
    let same : h ≡ head = last-push core.published.heads h head (subst (λ (p : Log). slice_get p.heads (length p.heads - 1) ≡ Some head) e last) in
    let make : Log → List Settled → CoreState = λ p records. record { published = p; entries = core.entries; settlement = records } in
    let state : next ≡ published_with core head = e ∙ ap (published_with core) same in
    let after : with_all next core.entries ss ≡ after_publishing core head = ap (λ (records : List Settled). make next (next.settlement ++ records)) none
    ∙ ap (make next) (append-nil next.settlement) ∙ ap (λ (p : Log). make p p.settlement) state in
    let all = IsCore-publish core h.timestamp h is time is_next in
    record {
      core = subst IsCore (sym after) (subst (λ (k : Head). IsCore (after_publishing core k)) same all);
      state = state;
      after = after;
    }

-- the core of a new log, before anything is settled
pub record Opens (now : ℕ) (opened : CoreState) : Type 0 where
  pub core : IsCore opened
  pub fresh : opened ≡ new_core now
  pub settled : IsSettled opened []

pub opens : (log : Log) (es : List Entry) (ss : List Settled) (now : ℕ) → log ≡ (let p = new_core now in p.published) → es ≡ [] → ss ≡ []
    → Opens now (with_all log es ss)
opens log es ss now a b c =
    let same : with_all log es ss ≡ new_core now =
    ap (λ (rs : List Settled). with_all log es rs) c ∙ ap (λ (xs : List Entry). with_all log xs []) b ∙ ap (λ (p : Log). with_all p [] []) a in
    record {
      core = subst IsCore (sym same) (IsCore-open now);
      fresh = same;
      settled = subst (λ (s : CoreState). IsSettled s []) (sym same) no_items;
    }
