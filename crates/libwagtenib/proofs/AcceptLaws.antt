-- The law of one node over a lock that may fall.
use Rattle.std.proofs.Common.{◌≡◌, ◌∙◌, ◌⊎◌, ◌+◌, ◌≤◌, ℕ, List, [], ◌∷◌, length, take, drop, Some, None, All, sym, subst, ap, inl, inr, ⊎_elim, arith}
use Rattle.std.proofs.lemmas.List.{length-take-le}
use Rattle.std.proofs.lemmas.List.Elements.{All-nil, All-head, All-tail, All-contains}
use Rattle.ct_guard.proofs.NewestHead.{heads_go_back}
use Rattle.ct_guard.specs.Guarded.{PassesHead}
use Rattle.ct_guard.specs.NewestHead.{HeadStep, AreHeadSteps, IsHeadOfFirst, NewestIsOf, IsHashedForHeads}
use Rattle.ct_monitor.specs.Heads.{IsHeadOfAll}
use Rattle.ct_verify.proofs.Agreeing.{collide_more}
use Rattle.ct_verify.specs.Hashed.{CollideAmong}
use Rattle.ct_guard.proofs.StepReceipts.{step_receipts_stand}
use Rattle.ct_guard.specs.StepReceipts.{PassesReceipts, IsHashedForStep}
use Rattle.ct_tree.specs.declared.head.Head.{Head}
use Rattle.ct_verify.specs.Laws.{AreHashes}
use Rattle.libwagtenib.proofs.GuardLaws.{above_0-head, above_0-receipt, of_one, same_head, taken_go_back, wrote}
use Rattle.libwagtenib.specs.Guard.{AcceptsHead, GuardsReceipts, IsStateOf}
use Rattle.libwagtenib.specs.AcceptLaws.{AcceptCall, ReceiptsCall, NodeAct, Accepts, Signs, Promises, AreActs, newest_accepted, accepted_steps, seen_steps}
use Rattle.libwagtenib.specs.AcceptLaws.{AreLeavesFrom, AreActsOf, IsHashedForPromises, IsHashedForActs, AcceptedAreSteps, ActsAreOfOneLog, IsHashedForStepReceipts, StepReceiptsStandInNewest}
use Rattle.libwagtenib.specs.GuardLaws.{HeadCall, head_steps_of}

-- a call that returned 0 accepted the head
accepts : (H : List ℕ → List ℕ) (accepted head : Head) (proof : List (List ℕ)) → AcceptsHead H 0 accepted head proof
    → PassesHead H (Some accepted) head proof × AreHashes proof
accepts H accepted head proof (inl z) = (z.1, z.2)
accepts H accepted head proof (inr (r, code, stops)) = absurd (omega (arith, code, above_0-head r))

-- a call that returned 0 let the receipts through
lets : (H : List ℕ → List ℕ) (state : List ℕ) (first : ℕ) (subtrees leaves : List (List ℕ)) → GuardsReceipts H 0 state first subtrees leaves
    → (last : Head) × IsStateOf last state × PassesReceipts H (Some last) first subtrees leaves × AreHashes subtrees
lets H state first subtrees leaves (inl z) = absurd (omega (arith, z.0))
lets H state first subtrees leaves (inr (last, is, inl (inl z))) = (last, is, z.1, z.2)
lets H state first subtrees leaves (inr (last, is, inl (inr (r, code, stops)))) = absurd (omega (arith, code, above_0-receipt r))
lets H state first subtrees leaves (inr (last, is, inr none)) = absurd (omega (arith, none))

steps_of : (H : List ℕ → List ℕ) (accepted : Head) (acts : List (NodeAct H)) → AreActs H accepted acts → AreHeadSteps H (Some accepted) (accepted_steps acts)
unfolding AreActs AreHeadSteps accepted_steps
steps_of H accepted [] a = tt
steps_of H accepted (Accepts c ∷ acts) a =
    let p = accepts H c.accepted c.head c.proof c.returned in
    (subst (λ (h : Head). PassesHead H (Some h) c.head c.proof) a.0 p.0, p.1, steps_of H c.head acts a.1)
steps_of H accepted (Signs head ∷ acts) a = steps_of H accepted acts a.1
steps_of H accepted (Promises r ∷ acts) a = steps_of H accepted acts a.1

pub accepted_are_steps : AcceptedAreSteps
unfolding AreHeadSteps
accepted_are_steps H accepted acts a = (tt, All-nil (λ (s : List ℕ). length s ≡ 32), steps_of H accepted acts a)

-- the newest of the steps is the newest accepted head
newest_is : (H : List ℕ → List ℕ) (D : List (List ℕ)) (accepted : Head) (proof : List (List ℕ)) (acts : List (NodeAct H))
    → IsHeadOfAll H D (newest_accepted accepted acts) → NewestIsOf H D (record { head = accepted; proof = proof } ∷ accepted_steps acts)
unfolding newest_accepted accepted_steps NewestIsOf
newest_is H D accepted proof [] is = is
newest_is H D accepted proof (Accepts c ∷ acts) is = newest_is H D c.head c.proof acts is
newest_is H D accepted proof (Signs head ∷ acts) is = newest_is H D accepted proof acts is
newest_is H D accepted proof (Promises r ∷ acts) is = newest_is H D accepted proof acts is

-- the leaves of a step whose receipts were let through after a head of a beginning of D
leaves_of : (H : List ℕ → List ℕ) → ((x : List ℕ) → length (H x) ≡ 32) → (D : List (List ℕ)) (T : List ℕ → Type 0) (accepted : Head) (r : ReceiptsCall H)
    → ((n : ℕ) → n ≤ length D → (x : List ℕ) → IsHashedForStep H (take n D) r.first r.subtrees r.leaves x → T x)
    → IsHeadOfFirst H D accepted → IsStateOf accepted r.state → AreLeavesFrom D r.first r.leaves ⊎ CollideAmong H T
leaves_of H sized D T accepted r more of is =
    let p = lets H r.state r.first r.subtrees r.leaves r.returned in
    let same : p.0 ≡ accepted = same_head p.0 accepted r.state p.1 is in
    let passes : PassesReceipts H (Some accepted) r.first r.subtrees r.leaves =
    subst (λ (h : Head). PassesReceipts H (Some h) r.first r.subtrees r.leaves) same p.2 in
    let n = accepted.tree_size in
    let ends : r.first + length r.leaves ≡ n = passes.0.1 in
    let g = of (omega (arith, passes.0.0, ends)) in
    let size : n ≡ length (take n D) = sym (length-take-le n D g.0) in
    ⊎_elim
    (λ (e : r.leaves ≡ drop r.first (take n D)).
    inl (omega (arith, ends, g.0), e ∙ ap (λ (k : ℕ). drop r.first (take k D)) (sym ends)))
    (λ (pair : CollideAmong H (IsHashedForStep H (take n D) r.first r.subtrees r.leaves)).
    inr (collide_more H (IsHashedForStep H (take n D) r.first r.subtrees r.leaves) T (more n g.0) pair))
    (step_receipts_stand H sized accepted (take n D) r.first r.subtrees r.leaves (size, g.1) p.3 passes)

both : {A B C : Type 0} → A ⊎ C → B ⊎ C → (A × B) ⊎ C
both (inl a) (inl b) = inl (a, b)
both (inl a) (inr c) = inr c
both (inr c) z = inr c

all_acts : (H : List ℕ → List ℕ) → ((x : List ℕ) → length (H x) ≡ 32) → (D : List (List ℕ)) (T : List ℕ → Type 0) (accepted : Head) (acts : List (NodeAct H))
    → ((x : List ℕ) → IsHashedForPromises H D acts x → T x) → AreActs H accepted acts → IsHeadOfFirst H D accepted
    → All (λ (s : HeadStep). IsHeadOfFirst H D s.head) (accepted_steps acts) → AreActsOf D acts ⊎ CollideAmong H T
unfolding AreActs accepted_steps AreActsOf IsHashedForPromises
all_acts H sized D T accepted [] more a of all = inl tt
all_acts H sized D T accepted (Accepts c ∷ acts) more a of all =
    let s : HeadStep = record { head = c.head; proof = c.proof } in
    let is = All-head (λ (s : HeadStep). IsHeadOfFirst H D s.head) s (accepted_steps acts) all in
    both (inl is) (all_acts H sized D T c.head acts more a.1 is (All-tail (λ (s : HeadStep). IsHeadOfFirst H D s.head) s (accepted_steps acts) all))
all_acts H sized D T accepted (Signs head ∷ acts) more a of all =
    both (inl (subst (IsHeadOfFirst H D) (sym a.0) of)) (all_acts H sized D T accepted acts more a.1 of all)
all_acts H sized D T accepted (Promises r ∷ acts) more a of all =
    both (leaves_of H sized D T accepted r (λ n l x w. more x (inl (n, l, w))) of a.0)
    (all_acts H sized D T accepted acts (λ x w. more x (inr w)) a.1 of all)

pub acts_are_of_one_log : ActsAreOfOneLog
acts_are_of_one_log H sized accepted acts a D newest =
    let T = IsHashedForActs H accepted acts D in
    let S = IsHashedForHeads H None (seen_steps accepted acts) D in
    let before : HeadStep = record { head = accepted; proof = [] } in
    ⊎_elim
    (λ (all : All (λ (s : HeadStep). IsHeadOfFirst H D s.head) (seen_steps accepted acts)).
    let of = All-head (λ (s : HeadStep). IsHeadOfFirst H D s.head) before (accepted_steps acts) all in
    both (inl of)
    (all_acts H sized D T accepted acts (λ x w. inr w) a of
    (All-tail (λ (s : HeadStep). IsHeadOfFirst H D s.head) before (accepted_steps acts) all)))
    (λ (pair : CollideAmong H S). inr (collide_more H S T (λ x w. inl w) pair))
    (heads_go_back H sized None (seen_steps accepted acts) D (accepted_are_steps H accepted acts a) (newest_is H D accepted [] acts newest))

pub step_receipts_stand_in_newest : StepReceiptsStandInNewest
step_receipts_stand_in_newest H sized last held h calls a D newest c among r over =
    let T = IsHashedForStepReceipts H last calls D r in
    let S = IsHashedForHeads H last (head_steps_of calls) D in
    let is = wrote H c.over c.head c.proof c.ahead c.before c.signed c.returned in
    ⊎_elim
    (λ (all : All (λ (s : HeadStep). IsHeadOfFirst H D s.head) (head_steps_of calls)).
    leaves_of H sized D T c.head r (λ n l x w. inr (n, l, w))
    (All-contains (λ (c : HeadCall H). IsHeadOfFirst H D c.head) calls c (of_one H D calls all) among) (subst (IsStateOf c.head) (sym over) is))
    (λ (pair : CollideAmong H S). inr (collide_more H S T (λ x w. inl w) pair))
    (taken_go_back H sized last held h calls a D newest)
