use Rattle.std.proofs.Common.{◌≡◌, ◌++◌, ℕ, List, Option, sym, subst}
use Rattle.std.specs.Prelude.{MatchOption}
use Rattle.ct_monitor.specs.StateText.{AreSubtreesInBytes, subtrees_text}
use Rattle.ct_monitor.specs.declared.reading.Both.{Both}
use Rattle.ct_monitor.proofs.NoTexts.{AreHeads, AreNoHeads, no_both, no_heads}
use Rattle.ct_monitor.proofs.reading.parts_in.Goals as goal

abbrev AreAt : List ℕ → Option Both → Type 0
AreAt old o = MatchOption o
    ((p q : ℕ × List (List ℕ)) → AreSubtreesInBytes p → AreSubtreesInBytes q → old ≡ subtrees_text p ++ subtrees_text q → ⊥)
    (λ b. AreSubtreesInBytes b.sure × AreSubtreesInBytes b.all × (old ≡ subtrees_text b.sure ++ subtrees_text b.all))

pub returns-in-None : goal.returns-in-None
returns-in-None c =
    let none = subst (AreAt c.heads_at.new.reader) c.in-None.is c.in_ok-found.ensures in
    no_both c.args.bytes.now c.heads_at.new.reader c.in-Some.heads
    (subst (λ (b : List ℕ). AreHeads b c.heads_at.new.reader c.in-Some.heads) c.new-reader.ensures c.in-Some.ensures) none

pub returns-in_default : goal.returns-in_default
returns-in_default c = no_heads c.args.bytes.now (subst AreNoHeads c.new-reader.ensures c.in_default.ensures)
