use Rattle.std.proofs.Common.{◌≡◌, ◌∙◌, ◌++◌, ℕ, List, Option, sym, subst}
use Rattle.std.specs.Prelude.{MatchOption}
use Rattle.ct_monitor.specs.StateText.{AreSubtreesInBytes, subtrees_text}
use Rattle.ct_monitor.proofs.NoTexts.{no_all, left_over}
use Rattle.ct_monitor.proofs.reading.both_at.Goals as goal

abbrev AreAt : List ℕ → List ℕ → Option (ℕ × List (List ℕ)) → Type 0
AreAt old new o = MatchOption o ((p : ℕ × List (List ℕ)) (r : List ℕ) → AreSubtreesInBytes p → old ≡ subtrees_text p ++ r → ⊥)
    (λ p. AreSubtreesInBytes p × (old ≡ subtrees_text p ++ new))

pub returns-in_default-2 : goal.returns-in_default-2
returns-in_default-2 c =
    let sure = subst (AreAt c.args.reader.now c.subtrees_at.new.reader) c.in-Some.is c.in_ok-sure.ensures in
    let none = subst (AreAt c.subtrees_at.new.reader c.subtrees_at-2.new.reader) c.in_default-2.is c.in_ok-all.ensures in
    no_all c.args.reader.now c.subtrees_at.new.reader c.in-Some.sure sure.0 sure.1 none

pub returns-else-ended : goal.returns-else-ended
returns-else-ended c =
    let sure = subst (AreAt c.args.reader.now c.subtrees_at.new.reader) c.in-Some.is c.in_ok-sure.ensures in
    let all = subst (AreAt c.subtrees_at.new.reader c.subtrees_at-2.new.reader) c.in-Some-2.is c.in_ok-all.ensures in
    left_over c.args.reader.now c.subtrees_at.new.reader c.subtrees_at-2.new.reader c.in-Some.sure c.in-Some-2.all sure.0 sure.1 all.0 all.1
    (sym c.is_at_end-ended.ensures ∙ c.if-ended.false)
