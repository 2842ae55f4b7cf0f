use Rattle.std.proofs.Common.{◌≡◌, ℕ, List, Option, Vec, Global, subst}
use Rattle.std.specs.Prelude.{MatchOption}
use Rattle.ct_codec.specs.Parts.{joined}
use Rattle.ct_verify.specs.Laws.{AreHashes}
use Rattle.ct_monitor.proofs.NoTexts.{no_leaves, no_vector, no_roots}
use Rattle.ct_monitor.proofs.reading.subtrees_at.Goals as goal

pub returns-in_default : goal.returns-in_default
returns-in_default c = no_leaves c.args.reader.now c.in_default.ensures.none

pub returns-in_default-vector_at : goal.returns-in_default-vector_at
returns-in_default-vector_at c =
    no_vector c.args.reader.now c.number_8.new.self c.in-Some.leaves c.in-Some.ensures.fits c.in-Some.ensures.some c.in_default-vector_at.ensures

abbrev AreRootsIn : List ℕ → Option (Vec (List ℕ) Global) → Type 0
AreRootsIn bytes o = MatchOption o ((p : List (List ℕ)) → AreHashes p → bytes ≡ joined p → ⊥) (λ v. AreHashes v.items × (bytes ≡ joined v.items))

pub returns-in-None : goal.returns-in-None
returns-in-None c =
    let none = subst (AreRootsIn c.in-Some-vector_at.bytes.now) c.in-None.is c.in_ok-found.ensures in
    no_roots c.args.reader.now c.number_8.new.self c.vector_at.new.reader c.in-Some-vector_at.bytes.now c.in-Some.leaves c.in-Some.ensures.fits
    c.in-Some.ensures.some c.in-Some-vector_at.ensures.0 c.in-Some-vector_at.ensures.1 none
