-- The published states that a front shows, and how a front continues.
use Rattle.std.proofs.Common.{◌≡◌, ◌⊎◌, ◌∙◌, true, false, inl, inr, ap, subst, refl, sym}
use Rattle.std.specs.Prelude.{Result, Ok, Err, MatchResult, IfErr, IsErrAnd}
use Rattle.ct_codec.specs.declared.refusal.Refusal.{Refusal}
use Rattle.ct_codec.specs.declared.refusal.Refusal.TheVariants.{Memory, Closed}
use Rattle.ct_core.specs.Settlement.{Log, Lawful}
use Rattle.ct_core.specs.Answers.{answer}
use Rattle.ct_core.specs.Replies.{Answer, a_head, refused, shown, takes_memory}
use Rattle.ct_core.specs.declared.query.Query.{Query}
use Rattle.ct_core.specs.declared.query.Query.TheVariants.{GetSth}
use Rattle.ct_core.specs.declared.query.Reply.{Reply}
use Rattle.ct_core.proofs.CoreLemmas.{Begins-refl, Begins-trans}
use Rattle.ct_gate.specs.Ends.{IntakeView, SameIntake}
use Rattle.ct_house.specs.House.{FrontView}
use Rattle.ct_tree.specs.declared.head.Head.{Head}
use Rattle.ct_house.specs.Sights.{Sight, Moves}
use Rattle.ct_lines.specs.ReplyText.{answered}
use Rattle.ct_workers.specs.FrontWork.{FrontGoesOn, Looks, Shows}

-- ---- the shown state

pub shows_answered : (r : Result Reply Refusal) (q : Query) (p : Log) → Lawful p
    → MatchResult r (λ x. shown x ≡ answer p q) (λ e. (e ≡ Memory) ⊎ ((e ≡ Closed) ⊎ (refused e ≡ answer p q)))
    → IfErr r (λ e. e ≡ Memory → takes_memory (answer p q) ≡ true) → Shows p q (answered r)
shows_answered (Ok x) q p lawful is memory = record { lawful = lawful; shown = inr (inr is) }
shows_answered (Err e) q p lawful (inl is) memory = record { lawful = lawful; shown = inl (ap refused is, memory is) }
shows_answered (Err e) q p lawful (inr (inl is)) memory = record { lawful = lawful; shown = inr (inl (ap refused is)) }
shows_answered (Err e) q p lawful (inr (inr is)) memory = record { lawful = lawful; shown = inr (inr is) }

-- a lawful log has a head
head_shown : (p : Log) → Lawful p → (h : Head) × (answer p GetSth ≡ a_head h)
head_shown p lawful = let (h, at, size) = lawful.covered in (h, rw at refl)

same_refused : (d e : Refusal) → refused d ≡ refused e → d ≡ e
same_refused d e is = ap of is
  where
    of : Answer → Refusal
    of (refused x) = x
    of _ = d

-- the head is refused only if no state is shown
pub head_refused : (p : Log) (e : Refusal) → Shows p GetSth (refused e) → e ≡ Closed
head_refused p e s = let (h, is) = head_shown p s.lawful in go h is s.shown
  where
    other : (h : Head) → refused e ≡ a_head h → ⊥
    other h is = cc

    go : (h : Head) → answer p GetSth ≡ a_head h
        → ((refused e ≡ refused Memory) × (takes_memory (answer p GetSth) ≡ true)) ⊎ ((refused e ≡ refused Closed) ⊎ (refused e ≡ answer p GetSth)) → e ≡ Closed
    go h is (inl memory) =
        let bad : false ≡ true = subst (λ (a : Answer). takes_memory a ≡ true) is memory.1 in
        cc
    go h is (inr (inl closed)) = same_refused e Closed closed
    go h is (inr (inr told)) = absurd (other h (told ∙ is))

-- ---- how a front continues

moves_none : (s : Sight) → Moves s s
moves_none s = record {
  series = refl;
  seen = record { entries = Begins-refl s.seen.entries; settlement = Begins-refl s.seen.settlement; heads = Begins-refl s.seen.heads };
}

moves_both : (a b c : Sight) → Moves a b → Moves b c → Moves a c
moves_both a b c p q = record {
  series = q.series ∙ p.series;
  seen = record {
    entries = Begins-trans a.seen.entries b.seen.entries c.seen.entries p.seen.entries q.seen.entries;
    settlement = Begins-trans a.seen.settlement b.seen.settlement c.seen.settlement p.seen.settlement q.seen.settlement;
    heads = Begins-trans a.seen.heads b.seen.heads c.seen.heads p.seen.heads q.seen.heads;
  };
}

same_none : (a : IntakeView) → SameIntake a a
same_none a = (refl, refl, refl, refl)

pub looks_none : (a : FrontView) → Looks a a
looks_none a = record { intake = refl; moves = moves_none a.sight }

pub looks_both : (a b c : FrontView) → Looks a b → Looks b c → Looks a c
looks_both a b c p q = record { intake = q.intake ∙ p.intake; moves = moves_both a.sight b.sight c.sight p.moves q.moves }

-- a front that looked continues; a front that submitted does too
pub looks_on : (a b : FrontView) → Looks a b → FrontGoesOn a b
looks_on a b l = record {
  same = subst (λ (i : IntakeView). SameIntake a.intake i) (sym l.intake) (same_none a.intake);
  moves = l.moves;
  shutdown = λ known. ap (λ (i : IntakeView). i.knows_shutdown) l.intake ∙ known;
}

pub submits_on : (a b : FrontView) → SameIntake a.intake b.intake → b.sight ≡ a.sight
    → (a.intake.knows_shutdown ≡ true → b.intake.knows_shutdown ≡ true) → FrontGoesOn a b
submits_on a b same sight shutdown = record {
  same = same;
  moves = subst (λ (s : Sight). Moves a.sight s) (sym sight) (moves_none a.sight);
  shutdown = shutdown;
}

pub front_goes_on_nothing : (a : FrontView) → FrontGoesOn a a
front_goes_on_nothing a = record { same = same_none a.intake; moves = moves_none a.sight; shutdown = λ known. known }

pub front_goes_on_both : (a b c : FrontView) → FrontGoesOn a b → FrontGoesOn b c → FrontGoesOn a c
front_goes_on_both a b c p q = record {
  same = (q.same.0 ∙ p.same.0, q.same.1 ∙ p.same.1, q.same.2 ∙ p.same.2, q.same.3 ∙ p.same.3);
  moves = moves_both a.sight b.sight c.sight p.moves q.moves;
  shutdown = λ known. q.shutdown (p.shutdown known);
}

-- a property of the fault is a property of the error that it became
pub if_err_is : {T E : Type 0} (P : E → Type 0) (r : Result T E) (x : E) → IsErrAnd r (λ e. e ≡ x) → P x → IfErr r P
if_err_is P (Ok o) x none p = absurd none
if_err_is P (Err e) x is p = subst P (sym is) p
