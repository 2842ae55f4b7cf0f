-- A text stands in bytes if and only if a search finds it there.
use Rattle.std.proofs.Common.{◌∙◌, ◌+◌, ℕ, List, ◌++◌, length, drop, take, Option, Some, None, is_some, refl, sym, ap, subst, arith, length-append, take-append-drop}
use Rattle.std.specs.Prelude.{IsTrue}
use Rattle.std.proofs.lemmas.List.{get_or-append-add, get_or_append_left}
use Rattle.memchr.specs.Find.{OccursAt, FindsNeedle}
use Rattle.memchr.proofs.lemmas.MatchLemmas.{OccursAt-split}
use Rattle.ct_names.specs.InBytes.{StandsIn}

-- what is found at a place stands there
stands_at : (bytes text : List ℕ) (k : ℕ) → OccursAt bytes text k → StandsIn bytes text
stands_at bytes text k h = (
  take k bytes,
  drop (k + length text) bytes,
  sym (take-append-drop k bytes) ∙ ap (λ (l : List ℕ). take k bytes ++ l) (OccursAt-split bytes text k h),
)

occurs_between : (before text after : List ℕ) → OccursAt (before ++ (text ++ after)) text (length before)
occurs_between before text after = record {
  fits = omega (arith, length-append before (text ++ after), length-append text after);
  reads = λ j l. get_or-append-add before (text ++ after) j 0 ∙ get_or_append_left text after 0 j l;
}

-- what stands in the bytes is found at a place
occurs : (bytes text : List ℕ) (s : StandsIn bytes text) → OccursAt bytes text (length s.0)
occurs bytes text s = subst (λ (l : List ℕ). OccursAt l text (length s.0)) (sym s.2) (occurs_between s.0 text s.1)

pub stands : (bytes text : List ℕ) (r : Option ℕ) → FindsNeedle bytes text 0 r
    → (IsTrue (is_some r) → StandsIn bytes text) × (StandsIn bytes text → IsTrue (is_some r))
stands bytes text None f =
    (λ t. cc, λ s. let o = occurs bytes text s in absurd (f (length s.0) (omega arith) (omega (arith, o.fits)) o))
stands bytes text (Some k) f = (λ t. stands_at bytes text k f.1, λ s. refl)
