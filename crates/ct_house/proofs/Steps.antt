-- The steps on the book keep its rule.
use Rattle.std.proofs.Common.{◌≡◌, ℕ, zero, suc, ◌-◌, ◌<◌, true, false, List, [], ◌∷◌, ◌++◌, length, refl, ap, sym, ◌∙◌, subst, arith, inl, None}
use Rattle.std.proofs.lemmas.List.{append-nil}
use Rattle.std.proofs.lemmas.Bool.{false≢true}
use Rattle.std.specs.Prelude.{slice_set}
use Rattle.logbook.specs.Pages.{Cell, Nib, cell, adds, gives, keeps, may_write, no_nib, step, Moves}
use Rattle.ct_core.specs.Settlement.{Lawful}
use Rattle.ct_core.specs.Core.{Extends}
use Rattle.ct_house.specs.Publications.{AddsToLine, Ends, HoldsTurn, IsHome, IsKept, IsRight, MakesRight, OpensLine, newest}
use Rattle.ct_house.specs.declared.publications.Publication.{Publication}
use Rattle.ct_house.proofs.Lines.{ends_push, kept_add, kept_more, newer_than_all}
use Rattle.ct_house.proofs.Prefixes.{prefix_get}

-- words that nobody holds the right to write
home_within : (cs : List Cell) (k : ℕ) → IsHome cs k → k < length cs
home_within [] k h = absurd (false≢true h)
home_within (c ∷ cs) zero h = omega arith
home_within (c ∷ cs) (suc k) h = let r = home_within cs k h in omega arith

home_set : (cs : List Cell) (j n k : ℕ) → IsHome cs k → IsHome (slice_set cs j (n, true)) k
home_set [] j n k h = absurd (false≢true h)
home_set (c ∷ cs) zero n zero h = refl
home_set (c ∷ cs) zero n (suc k) h = h
home_set (c ∷ cs) (suc j) n zero h = h
home_set (c ∷ cs) (suc j) n (suc k) h = home_set cs j n k h

home_push : (cs : List Cell) (c : Cell) (k : ℕ) → IsHome cs k → IsHome (cs ++ c ∷ []) k
home_push [] c k h = absurd (false≢true h)
home_push (d ∷ cs) c zero h = h
home_push (d ∷ cs) c (suc k) h = home_push cs c k h

home_here : (cs : List Cell) (j n : ℕ) → j < length cs → IsHome (slice_set cs j (n, true)) j
home_here [] j n h = absurd (omega arith)
home_here (c ∷ cs) zero n h = refl
home_here (c ∷ cs) (suc j) n h = home_here cs j n (omega arith)

length_home : (cs : List Cell) (j : ℕ) (c : Cell) → length (slice_set cs j c) ≡ length cs
length_home [] j c = refl
length_home (d ∷ cs) zero c = refl
length_home (d ∷ cs) (suc j) c = ap suc (length_home cs j c)

abbrev pub shown : List Publication → List Publication
shown all = []

abbrev pub moved : List Publication → List Publication → ℕ → Type 0
moved before after answer = Unit {0}

-- the cells after the right to write the pen's word was given up
abbrev pub home_after : List Cell → (ℕ → ℕ) → Nib → List Cell
home_after cs f n = slice_set (slice_set cs 0 (f (cell cs 0).0, true)) n.key (n.value, true)

stays_home : (cs : List Cell) (f : ℕ → ℕ) (n : Nib) (k : ℕ) → IsHome cs k → IsHome (home_after cs f n) k
stays_home cs f n k h = home_set (slice_set cs 0 (f (cell cs 0).0, true)) n.key n.value k (home_set cs 0 (f (cell cs 0).0) k h)

comes_home : (cs : List Cell) (f : ℕ → ℕ) (n : Nib) → n.key < length cs → IsHome (home_after cs f n) n.key
comes_home cs f n below =
    let l = length_home cs 0 (f (cell cs 0).0, true) in
    home_here (slice_set cs 0 (f (cell cs 0).0, true)) n.key n.value (omega arith)

-- a right can be made in any book
pub right_moves : (v : List Publication) (e : Publication) (f : ℕ → ℕ)
    → Moves IsKept shown moved 0 (v, (no_nib, None)) f (MakesRight (step 0 0 0 e) (v, (no_nib, None)))
right_moves v e f cs all kept pre away =
    let one = slice_set cs 0 (f (cell cs 0).0, true) in
    let home : (k : ℕ) → IsHome cs k → IsHome (one ++ (0, false) ∷ []) k = λ k h. home_push one (0, false) k (home_set cs 0 (f (cell cs 0).0) k h) in (
      home_within cs 0 kept.word,
      kept.word,
      (
        adds,
        [],
        None,
        tt,
        subst (IsKept (one ++ (0, false) ∷ [])) (sym (append-nil all))
            (kept_more cs (one ++ (0, false) ∷ []) all home kept),
        inl (refl, refl),
        refl,
      ),
    )

-- a line can be opened with the word of a right
pub open_moves : (v : List Publication) (e : Publication) (n : Nib) (f : ℕ → ℕ) → n.right ≡ may_write → Lawful e.state
    → Moves IsKept shown moved 0 (v, (n, None)) f (OpensLine (step 0 0 0 e) (v, (n, None)))
open_moves v e n f right law cs all kept pre away =
    let here = away right in
    let x : Publication = record { line = n.key; state = e.state; turn = e.turn } in
    let nobody : IsHome cs n.key → ⊥ = λ h. false≢true (sym here.1 ∙ h) in (
      home_within cs 0 kept.word,
      kept.word,
      (
        gives,
        x ∷ [],
        None,
        right,
        kept_add cs (home_after cs f n) all x (stays_home cs f n) kept (λ i p at same. absurd (nobody (subst (IsHome cs) (sym same) (kept.named i p at))))
            (comes_home cs f n here.0) law,
        inl (refl, refl),
        ends_push all x,
      ),
    )

-- the holder of the turn of a line can add to the line
pub add_moves : (v : List Publication) (e : Publication) (n : Nib) (f : ℕ → ℕ) → Ends v (newest v) → IsRight n (newest v).turn
    → Extends (newest v).state e.state → length (newest v).state.heads < length e.state.heads → Lawful e.state
    → Moves IsKept shown moved 0 (v, (n, None)) f (AddsToLine (step 0 0 0 e) (v, (n, None)))
add_moves v e n f ends right extends heads law cs all kept pre away =
    let here = away right.0 in
    let p = newest v in
    let x : Publication = record { line = p.line; state = e.state; turn = e.turn } in
    let nobody : IsHome cs p.turn → ⊥ = λ h. false≢true (sym here.1 ∙ subst (IsHome cs) (sym right.1) h) in
    let over : IsHome (home_after cs f n) p.turn = subst (IsHome (home_after cs f n)) right.1 (comes_home cs f n here.0) in
    let named : IsHome cs p.line = kept.named (length v - 1) p (prefix_get v all (length v - 1) p pre ends) in (
      home_within cs 0 kept.word,
      kept.word,
      (
        gives,
        x ∷ [],
        None,
        right.0,
        kept_add cs (home_after cs f n) all x (stays_home cs f n) kept
            (newer_than_all cs (home_after cs f n) all v p x (stays_home cs f n) kept pre ends nobody over refl (record { extends = extends; heads = heads }))
            (stays_home cs f n p.line named) law,
        inl (refl, refl),
        ends_push all x,
      ),
    )

-- the holder of the turn of a line sees that no publication follows in the line
pub turn_holds : (v : List Publication) (e : Publication) (n : Nib) (f : ℕ → ℕ) → n.right ≡ may_write
    → Moves IsKept shown moved 0 (v, (n, None)) f (HoldsTurn (step 0 0 0 e) (v, (n, None)))
turn_holds v e n f right cs all kept pre away =
    let here = away right in
    let one = slice_set cs 0 (f (cell cs 0).0, true) in
    let nobody : IsHome cs n.key → ⊥ = λ h. false≢true (sym here.1 ∙ h) in (
      home_within cs 0 kept.word,
      kept.word,
      (
        keeps,
        [],
        None,
        tt,
        subst (IsKept one) (sym (append-nil all)) (kept_more cs one all (λ k h. home_set cs 0 (f (cell cs 0).0) k h) kept),
        inl (refl, refl),
        (
          refl,
          λ i j p q below atp atq line turn. nobody (subst (IsHome cs) turn
              (kept.over i j p q below (prefix_get v all i p pre atp) (prefix_get v all j q pre atq) line)),
        ),
      ),
    )
