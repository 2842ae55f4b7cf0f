-- Two observers of one line.
use Rattle.std.proofs.Common.{◌≡◌, ℕ, ◌-◌, ◌<◌, ◌≤◌, List, length, ap, sym, ◌∙◌, subst, arith, inl, inr}
use Rattle.std.proofs.lemmas.Bool.{cases_lt}
use Rattle.std.proofs.lemmas.Option.{get_or_from_slice_get, same_Some}
use Rattle.std.specs.Prelude.{Some, slice_get}
use mathlib.Core.List.{IsPrefix}
use Rattle.logbook.specs.Pages.{Book, Cell}
use Rattle.ct_core.specs.Core.{Extends}
use Rattle.ct_house.specs.Publications.{Ends, IsKept, Reach, Series, newest, no_publication, series_of}
use Rattle.ct_house.specs.declared.publications.Publication.{Publication}
use Rattle.ct_house.proofs.Lines.{Extends-refl}
use Rattle.ct_house.proofs.Prefixes.{prefix_get}

-- of two publications of one line, the state with fewer or as many heads is a prefix of the other
pub two_seen : (xs ys zs : List Publication) → ((cs : List Cell) × IsKept cs zs) → Ends xs (newest xs) → Ends ys (newest ys) → IsPrefix xs zs
    → IsPrefix ys zs → (newest ys).line ≡ (newest xs).line
    → length (newest xs).state.heads ≤ length (newest ys).state.heads → Extends (newest xs).state (newest ys).state
two_seen xs ys zs (cs, kept) x y px py line heads =
    let i = length xs - 1 in
    let j = length ys - 1 in
    let atx : slice_get zs i ≡ Some (newest xs) = prefix_get xs zs i (newest xs) px x in
    let aty : slice_get zs j ≡ Some (newest ys) = prefix_get ys zs j (newest ys) py y in
    elim (cases_lt i j) [
      | inl below ↦ (kept.newer i j (newest xs) (newest ys) below atx aty line).extends
      | inr above ↦ elim (cases_lt j i) [
        | inl behind ↦ let less = (kept.newer j i (newest ys) (newest xs) behind aty atx (sym line)).heads in absurd (omega arith)
        | inr there ↦
            let e : i ≡ j = omega arith in
            let one : newest xs ≡ newest ys = same_Some (newest xs) (newest ys) (sym atx ∙ ap (slice_get zs) e ∙ aty) in
            subst (λ (z : Publication). Extends (newest xs).state z.state) one (Extends-refl (newest xs).state)
      ]
    ]

-- a publication seen of a line is a prefix of the one that no publication of the line follows
pub begun_by : (xs ys zs : List Publication) → ((cs : List Cell) × IsKept cs zs) → Ends xs (newest xs) → Ends ys (newest ys) → IsPrefix xs zs
    → IsPrefix ys zs → (newest ys).line ≡ (newest xs).line → (k : ℕ) → (newest xs).turn ≡ k
    → ((i j : ℕ) (p q : Publication) → i < j → slice_get zs i ≡ Some p → slice_get zs j ≡ Some q → q.line ≡ p.line → p.turn ≡ k → ⊥)
    → Extends (newest ys).state (newest xs).state
begun_by xs ys zs (cs, kept) x y px py line k turn behind =
    let i = length xs - 1 in
    let j = length ys - 1 in
    let atx : slice_get zs i ≡ Some (newest xs) = prefix_get xs zs i (newest xs) px x in
    let aty : slice_get zs j ≡ Some (newest ys) = prefix_get ys zs j (newest ys) py y in
    elim (cases_lt j i) [
      | inl below ↦ (kept.newer j i (newest ys) (newest xs) below aty atx (sym line)).extends
      | inr above ↦ elim (cases_lt i j) [
        | inl after ↦ absurd (behind i j (newest xs) (newest ys) after atx aty line turn)
        | inr there ↦
            let e : i ≡ j = omega arith in
            let one : newest xs ≡ newest ys = same_Some (newest xs) (newest ys) (sym atx ∙ ap (slice_get zs) e ∙ aty) in
            subst (λ (z : Publication). Extends z.state (newest xs).state) one (Extends-refl (newest xs).state)
      ]
    ]

-- the newest publication of a list is the one that the list ends with
pub ends_as : (all : List Publication) (p : Publication) → Ends all p → newest all ≡ p
ends_as all p ends = get_or_from_slice_get all (length all - 1) p no_publication ends

pub same_series : (a b : Reach) → a.book ≡ b.book → a.last.line ≡ b.last.line → series_of a ≡ series_of b
same_series a b book line =
    let made : Book → ℕ → Series = λ x n. record { book = x; line = n } in
    ap (λ (x : Book). made x a.last.line) book ∙ ap (made b.book) line

-- the same, for the models of two values
pub same_line : (x y a b : Reach) → x ≡ a → y ≡ b → series_of b ≡ series_of a → y.last.line ≡ x.last.line
same_line x y a b e f same = ap (λ (r : Reach). r.last.line) f ∙ ap (λ (s : Series). s.line) same ∙ sym (ap (λ (r : Reach). r.last.line) e)

pub extends_as : (x y a b : Reach) → x ≡ a → y ≡ b → Extends x.last.state y.last.state → Extends a.last.state b.last.state
extends_as x y a b e f h = subst (λ (r : Reach). Extends a.last.state r.last.state) f (subst (λ (r : Reach). Extends r.last.state y.last.state) e h)
