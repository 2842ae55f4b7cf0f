-- Lines of publications: the properties of a line remain true.
use Rattle.std.proofs.Common.{◌≡◌, ℕ, ◌-◌, ◌<◌, ◌≤◌, List, [], ◌∷◌, ◌++◌, length, ap, sym, ◌∙◌, subst, arith, append_assoc, inl, inr}
use Rattle.std.proofs.lemmas.List.{append-nil, length_push}
use Rattle.std.proofs.lemmas.Option.{slice_get_within, same_Some}
use Rattle.std.proofs.lemmas.Bool.{cases_lt}
use Rattle.std.specs.Prelude.{Some, slice_get}
use mathlib.Core.List.{IsPrefix}
use Rattle.logbook.specs.Pages.{Cell}
use Rattle.ct_core.specs.Settlement.{Log, Lawful}
use Rattle.ct_core.specs.Core.{Begins, Extends}
use Rattle.ct_core.proofs.SettlementLemmas.{slice_get-left, slice_get-end}
use Rattle.ct_house.specs.Publications.{Ends, IsHome, IsKept, IsNewer}
use Rattle.ct_house.specs.declared.publications.Publication.{Publication}
use Rattle.ct_house.proofs.Prefixes.{prefix_get}

Begins-refl : {X : Type 0} (xs : List X) → Begins xs xs
Begins-refl xs = ([], sym (append-nil xs))

Begins-trans : {X : Type 0} (xs ys zs : List X) → Begins xs ys → Begins ys zs → Begins xs zs
Begins-trans xs ys zs (one, e) (two, f) = (one ++ two, f ∙ ap (λ (ws : List _). ws ++ two) e ∙ append_assoc xs one two)

pub Extends-refl : (p : Log) → Extends p p
Extends-refl p = record { entries = Begins-refl p.entries; settlement = Begins-refl p.settlement; heads = Begins-refl p.heads }

pub Extends-trans : (p q r : Log) → Extends p q → Extends q r → Extends p r
Extends-trans p q r a b = record {
  entries = Begins-trans p.entries q.entries r.entries a.entries b.entries;
  settlement = Begins-trans p.settlement q.settlement r.settlement a.settlement b.settlement;
  heads = Begins-trans p.heads q.heads r.heads a.heads b.heads;
}

IsNewer-trans : (p q r : Log) → IsNewer p q → IsNewer q r → IsNewer p r
IsNewer-trans p q r a b = record { extends = Extends-trans p q r a.extends b.extends; heads = let x = a.heads in let y = b.heads in omega arith }

-- a list ends with the element added last
pub ends_push : (all : List Publication) (x : Publication) → Ends (all ++ x ∷ []) x
ends_push all x =
    let l = length_push all x in
    let e : length (all ++ x ∷ []) - 1 ≡ length all = omega arith in
    ap (slice_get (all ++ x ∷ [])) e ∙ slice_get-end all x

-- an element of a list with one more element is that one, or is in the list
data Stands (all : List Publication) (x : Publication) (i : ℕ) (p : Publication) : Type 0 where
  earlier : i < length all → slice_get all i ≡ Some p → Stands all x i p
  last : i ≡ length all → x ≡ p → Stands all x i p

stands : (all : List Publication) (x : Publication) (i : ℕ) (p : Publication) → slice_get (all ++ x ∷ []) i ≡ Some p → Stands all x i p
stands all x i p at = elim (cases_lt i (length all)) [
  | inl within ↦ earlier within (sym (slice_get-left all (x ∷ []) i within) ∙ at)
  | inr past ↦
      let l = length_push all x in
      let w = slice_get_within (all ++ x ∷ []) i p at in
      let e : length all ≡ i = omega arith in
      last (sym e) (same_Some x p (sym (slice_get-end all x) ∙ ap (slice_get (all ++ x ∷ [])) e ∙ at))
]

-- the rule holds if more words have no writer
pub kept_more : (cs ds : List Cell) (all : List Publication) → ((k : ℕ) → IsHome cs k → IsHome ds k) → IsKept cs all → IsKept ds all
kept_more cs ds all home kept = record {
  word = home 0 kept.word;
  lawful = kept.lawful;
  newer = kept.newer;
  named = λ i p at. home p.line (kept.named i p at);
  over = λ i j p q below atp atq same. home p.turn (kept.over i j p q below atp atq same);
}

-- the rule holds with one more publication, if that is lawful, is newer than the earlier ones of its line, and the turns of those are over
pub kept_add : (cs ds : List Cell) (all : List Publication) (x : Publication) → ((k : ℕ) → IsHome cs k → IsHome ds k) → IsKept cs all
    → ((i : ℕ) (p : Publication) → slice_get all i ≡ Some p → x.line ≡ p.line → IsNewer p.state x.state × IsHome ds p.turn) → IsHome ds x.line
    → Lawful x.state → IsKept ds (all ++ x ∷ [])
kept_add cs ds all x home kept before named law = record {
  word = home 0 kept.word;
  lawful = λ i p at. lawful_at i p (stands all x i p at);
  newer = λ i j p q below atp atq same. (both i j p q below same (stands all x i p atp) (stands all x j q atq)).0;
  named = λ i p at. named_at i p (stands all x i p at);
  over = λ i j p q below atp atq same. (both i j p q below same (stands all x i p atp) (stands all x j q atq)).1;
}
  where
    lawful_at : (i : ℕ) (p : Publication) → Stands all x i p → Lawful p.state
    lawful_at i p (earlier _ at) = kept.lawful i p at
    lawful_at i p (last _ e) = subst (λ (z : Publication). Lawful z.state) e law

    named_at : (i : ℕ) (p : Publication) → Stands all x i p → IsHome ds p.line
    named_at i p (earlier _ at) = home p.line (kept.named i p at)
    named_at i p (last _ e) = subst (λ (z : Publication). IsHome ds z.line) e named

    both : (i j : ℕ) (p q : Publication) → i < j → q.line ≡ p.line → Stands all x i p → Stands all x j q → IsNewer p.state q.state × IsHome ds p.turn
    both i j p q below same (earlier a atp) (earlier b atq) = (kept.newer i j p q below atp atq same, home p.turn (kept.over i j p q below atp atq same))
    both i j p q below same (earlier a atp) (last b e) =
        let (newer, over) = before i p atp (ap (λ (z : Publication). z.line) e ∙ same) in
        (subst (λ (z : Publication). IsNewer p.state z.state) e newer, over)
    both i j p q below same (last a d) (earlier b atq) = absurd (omega arith)
    both i j p q below same (last a d) (last b e) = absurd (omega arith)

-- if the turn of the last publication seen is not over, all of its line was seen
pub whole_seen : (cs : List Cell) (all v : List Publication) (p : Publication) → IsKept cs all → IsPrefix v all → Ends v p → (IsHome cs p.turn → ⊥)
    → (i : ℕ) (q : Publication) → slice_get all i ≡ Some q → q.line ≡ p.line → i ≤ length v - 1
whole_seen cs all v p kept pre ends away i q at same = elim (cases_lt (length v - 1) i) [
  | inl past ↦ absurd (away (kept.over (length v - 1) i p q past (prefix_get v all (length v - 1) p pre ends) at same))
  | inr within ↦ within
]

-- a state newer than that last one is newer than all of the line, and with the last turn over, all turns of the line are over
pub newer_than_all : (cs ds : List Cell) (all v : List Publication) (p x : Publication) → ((k : ℕ) → IsHome cs k → IsHome ds k) → IsKept cs all
    → IsPrefix v all → Ends v p → (IsHome cs p.turn → ⊥)
    → IsHome ds p.turn → x.line ≡ p.line → IsNewer p.state x.state → (i : ℕ) (q : Publication) → slice_get all i ≡ Some q → x.line ≡ q.line
    → IsNewer q.state x.state × IsHome ds q.turn
newer_than_all cs ds all v p x home kept pre ends away over line newer i q at same =
    let n = length v - 1 in
    let there : slice_get all n ≡ Some p = prefix_get v all n p pre ends in
    let within = whole_seen cs all v p kept pre ends away i q at (sym same ∙ line) in
    elim (cases_lt i n) [
      | inl below ↦ (
        IsNewer-trans q.state p.state x.state (kept.newer i n q p below at there (sym line ∙ same)) newer,
        home q.turn
            (kept.over i n q p below at there (sym line ∙ same)),
      )
      | inr above ↦
          let e : i ≡ n = omega arith in
          let one : p ≡ q = same_Some p q (sym there ∙ ap (slice_get all) (sym e) ∙ at) in
          (subst (λ (z : Publication). IsNewer z.state x.state) one newer, subst (λ (z : Publication). IsHome ds z.turn) one over)
    ]
