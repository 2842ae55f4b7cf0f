-- Accepted heads over many steps.
use Rattle.std.proofs.Common.{◌≡◌, ◌∙◌, ℕ, List, [], ◌∷◌, ◌++◌, length, take, Option, Some, None, All, true, false, ⊎_elim, sym, refl, ap, subst, arith, inl, inr}
use Rattle.std.proofs.lemmas.List.{append-nil, append_assoc}
use Rattle.std.proofs.lemmas.List.Elements.{All-cons}
use Rattle.std.proofs.Math.Seq.{take-append_seam}
use Rattle.ct_tree.specs.declared.head.Head.{Head}
use Rattle.ct_monitor.specs.Heads.{IsHeadOfAll}
use Rattle.ct_monitor.specs.Watched.{Watched, waiting_or, newest_or, read_on, after_head, after_verdict, nothing_seen}
use Rattle.ct_monitor.specs.Verdicts.{IsSaid, KnownSay, WaitingSays, HeadSays, EntriesSay, after_entries, is_again}
use Rattle.ct_monitor.specs.History.{SaysAccepted, IsStep, AreSteps, after_steps, IsOfBeginning, AcceptedHeadsAgree}
use Rattle.ct_monitor.specs.declared.verdict.Verdict.{Verdict}
use Rattle.ct_monitor.specs.declared.verdict.Verdict.TheVariants.{Accepted, Pending, Again, Older, Shrunk, Fork, TimeNotLater, RootMismatch, Gap, Consistent, Inconsistent}
use Rattle.ct_monitor.proofs.Steps.{bool_cases, is_again_Again, known_changes_nothing, settled_after}

-- a step keeps the accepted leaves, and any head that it accepts is the head of the new accepted leaves
abbrev Grows : (List ℕ → List ℕ) → Watched → Verdict → Watched → Type 0
Grows H w v next = ((Y : List (List ℕ)) × (next.sure ≡ w.sure ++ Y))
    × (SaysAccepted v → (head : Head) × (next.accepted ≡ Some head) × IsHeadOfAll H next.sure head)

-- nothing changed, and nothing was accepted
unchanged_grows : (H : List ℕ → List ℕ) (w : Watched) (v : Verdict) → (SaysAccepted v → ⊥) → Grows H w v w
unchanged_grows H w v n = (([], sym (append-nil w.sure)), λ a. absurd (n a))

said_accepts_nothing : (known : Option Head) (newest : ℕ) (head : Head) (v : Verdict) → IsSaid known newest head v → SaysAccepted v → ⊥
said_accepts_nothing None newest head v s a = s
said_accepts_nothing (Some known) newest head Accepted s a = s
said_accepts_nothing (Some known) newest head Pending s a = a
said_accepts_nothing (Some known) newest head Again s a = a
said_accepts_nothing (Some known) newest head (Older other) s a = a
said_accepts_nothing (Some known) newest head (Shrunk other) s a = a
said_accepts_nothing (Some known) newest head (Fork other) s a = a
said_accepts_nothing (Some known) newest head (TimeNotLater other) s a = a
said_accepts_nothing (Some known) newest head (RootMismatch root) s a = a
said_accepts_nothing (Some known) newest head Gap s a = a
said_accepts_nothing (Some known) newest head Consistent s a = a
said_accepts_nothing (Some known) newest head (Inconsistent fault) s a = a

known_accepts_nothing : (w : Watched) (head : Head) (v : Verdict) → KnownSay w.accepted w.waiting w.newest head v → SaysAccepted v → ⊥
known_accepts_nothing w head v (inl s) = said_accepts_nothing w.accepted w.newest.accepted head v s.0
known_accepts_nothing w head v (inr s) = said_accepts_nothing w.waiting w.newest.waiting head v s.1

-- the leaves stay after a verdict by known heads
known_sure : (w : Watched) (head : Head) (v : Verdict) → KnownSay w.accepted w.waiting w.newest head v → (after_head w head v).sure ≡ w.sure
known_sure w head v s =
    ⊎_elim
    (λ (again : is_again v ≡ true). ap (λ (x : Verdict). (after_head w head x).sure) (is_again_Again v again))
    (λ (other : is_again v ≡ false). ap (λ (x : Watched). x.sure) (known_changes_nothing w head v s other))
    (bool_cases (is_again v))

known_grows : (H : List ℕ → List ℕ) (w : Watched) (head : Head) (v : Verdict) → KnownSay w.accepted w.waiting w.newest head v → Grows H w v (after_head w head v)
known_grows H w head v s = (([], known_sure w head v s ∙ sym (append-nil w.sure)), λ a. absurd (known_accepts_nothing w head v s a))

-- the leaves `ahead` are those of w, or those and more
settled_grows : (H : List ℕ → List ℕ) (w : Watched) (head : Head) (newest : ℕ) (v : Verdict) → WaitingSays H w head v → Grows H w v (after_verdict w head newest v)
settled_grows H w head newest Accepted s = ((w.ahead, refl), λ a. (head, refl, s))
settled_grows H w head newest (RootMismatch root) s = (([], sym (append-nil w.sure)), λ a. absurd a)
settled_grows H w head newest Pending s = (([], sym (append-nil w.sure)), λ a. absurd a)
settled_grows H w head newest Again s = absurd s
settled_grows H w head newest (Older known) s = absurd s
settled_grows H w head newest (Shrunk known) s = absurd s
settled_grows H w head newest (Fork known) s = absurd s
settled_grows H w head newest (TimeNotLater known) s = absurd s
settled_grows H w head newest Gap s = absurd s
settled_grows H w head newest Consistent s = absurd s
settled_grows H w head newest (Inconsistent fault) s = absurd s

head_grows : (H : List ℕ → List ℕ) (w : Watched) (head : Head) (v : Verdict) → HeadSays H w head v → Grows H w v (after_head w head v)
head_grows H w head v (inl s) = known_grows H w head v s
head_grows H w head v (inr s) =
    subst (Grows H w v) (settled_after H w head (waiting_or w.waiting head) v s.1)
    (settled_grows H w (waiting_or w.waiting head) (newest_or w.waiting w.newest.waiting head) v s.1)

read_grows : (H : List ℕ → List ℕ) (w : Watched) (head : Head) (E : List (List ℕ)) (v : Verdict) → WaitingSays H (read_on w head E) head v
    → Grows H w v (after_entries w (Some head) E v)
read_grows H w head E Accepted s = settled_grows H (read_on w head E) head w.newest.waiting Accepted s
read_grows H w head E (RootMismatch root) s = settled_grows H (read_on w head E) head w.newest.waiting (RootMismatch root) s
read_grows H w head E Pending s = settled_grows H (read_on w head E) head w.newest.waiting Pending s
read_grows H w head E Again s = absurd s
read_grows H w head E (Older known) s = absurd s
read_grows H w head E (Shrunk known) s = absurd s
read_grows H w head E (Fork known) s = absurd s
read_grows H w head E (TimeNotLater known) s = absurd s
read_grows H w head E Gap s = absurd s
read_grows H w head E Consistent s = absurd s
read_grows H w head E (Inconsistent fault) s = absurd s

gap_grows : (H : List ℕ → List ℕ) (w : Watched) (head : Head) (E : List (List ℕ)) (v : Verdict) → v ≡ Gap → Grows H w v (after_entries w (Some head) E v)
gap_grows H w head E v e = rw e (unchanged_grows H w Gap (λ a. a))

entries_grow : (H : List ℕ → List ℕ) (w : Watched) (waiting : Option Head) (start : ℕ) (E : List (List ℕ)) (v : Verdict) → EntriesSay H w waiting start E v
    → Grows H w v (after_entries w waiting E v)
entries_grow H w None start E v e = rw e (unchanged_grows H w Gap (λ a. a))
entries_grow H w (Some head) start E v (inl e) = gap_grows H w head E v e.0
entries_grow H w (Some head) start E v (inr s) = read_grows H w head E v s.1

step_grows : (H : List ℕ → List ℕ) (w : Watched) (v : Verdict) (next : Watched) → IsStep H w v next → Grows H w v next
step_grows H w v next (inl (head, says, e)) = subst (Grows H w v) (sym e) (head_grows H w head v says)
step_grows H w v next (inr (start, E, says, e)) = subst (Grows H w v) (sym e) (entries_grow H w w.waiting start E v says)

-- the head that a step accepted is the head of a prefix of any longer list
of_beginning_at : (H : List ℕ → List ℕ) (next : Watched) (Z : List (List ℕ)) → ((head : Head) × (next.accepted ≡ Some head) × IsHeadOfAll H next.sure head)
    → (head : Head) × (n : ℕ) × (next.accepted ≡ Some head) × IsHeadOfAll H (take n (next.sure ++ Z)) head
of_beginning_at H next Z (head, e, s) = (head, length next.sure, e, rw (take-append_seam next.sure Z) s)

of_beginning : (H : List ℕ → List ℕ) (v : Verdict) (next : Watched) (Z : List (List ℕ))
    → (SaysAccepted v → (head : Head) × (next.accepted ≡ Some head) × IsHeadOfAll H next.sure head)
    → IsOfBeginning H (next.sure ++ Z) (v, next)
of_beginning H v next Z g a = of_beginning_at H next Z (g a)

-- the accepted leaves stay, and more may be added after them
steps_grow : (H : List ℕ → List ℕ) (w : Watched) (steps : List (Verdict × Watched)) → AreSteps H w steps
    → (Z : List (List ℕ)) × ((after_steps w steps).sure ≡ w.sure ++ Z)
unfolding AreSteps
steps_grow H w [] s = ([], sym (append-nil w.sure))
steps_grow H w ((v, next) ∷ steps) s =
    let g = step_grows H w v next s.0 in
    let rest = steps_grow H next steps s.1 in (g.0.0 ++ rest.0, rest.1 ∙ ap (λ x. x ++ rest.0) g.0.1 ∙ append_assoc w.sure g.0.0 rest.0)

agree_from : (H : List ℕ → List ℕ) (w : Watched) (steps : List (Verdict × Watched)) → AreSteps H w steps
    → All (IsOfBeginning H (after_steps w steps).sure) steps
unfolding AreSteps
agree_from H w [] s = λ k d h. absurd (omega (arith, h))
agree_from H w ((v, next) ∷ steps) s =
    let g = step_grows H w v next s.0 in
    let rest = steps_grow H next steps s.1 in
    let one = subst (λ (D : List (List ℕ)). IsOfBeginning H D (v, next)) (sym rest.1) (of_beginning H v next rest.0 g.1) in
    All-cons (IsOfBeginning H (after_steps next steps).sure) (v, next) steps one (agree_from H next steps s.1)

pub accepted_heads_agree : AcceptedHeadsAgree
accepted_heads_agree H steps s = agree_from H nothing_seen steps s
