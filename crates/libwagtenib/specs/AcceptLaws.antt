-- The law of one node over a lock that may fall: it may hold any earlier text again, or any other text, at any time. H is any hash function on byte lists with
-- hashes of 32 bytes. The library's is SHA-256.
use Rattle.std.specs.Prelude.{◌≡◌, ◌⊎◌, ◌+◌, ◌≤◌, ⊤, ℕ, List, [], ◌∷◌, Contains, length, take, drop, Option, None}
use Rattle.ct_guard.specs.NewestHead.{HeadStep, AreHeadSteps, IsHeadOfFirst, NewestIsOf, IsHashedForHeads}
use Rattle.ct_monitor.specs.Heads.{IsHeadOfAll}
use Rattle.ct_verify.specs.Hashed.{CollideAmong}
use Rattle.ct_guard.specs.StepReceipts.{IsHashedForStep}
use Rattle.ct_tree.specs.declared.head.Head.{Head}
use Rattle.libwagtenib.specs.Guard.{AcceptsHead, GuardsReceipts, IsStateOf}
use Rattle.libwagtenib.specs.GuardLaws.{HeadCall, AreTaken, HoldsStateOf, head_steps_of}

-- A call of `wagtenib_node_accept` returned 0.
pub record AcceptCall (H : List ℕ → List ℕ) : Type 0 where
  pub accepted : Head
  pub head : Head
  pub proof : List (List ℕ)
  pub returned : AcceptsHead H 0 accepted head proof

-- A call of `wagtenib_guard_receipts` returned 0.
pub record ReceiptsCall (H : List ℕ → List ℕ) : Type 0 where
  pub state : List ℕ
  pub first : ℕ
  pub subtrees : List (List ℕ)
  pub leaves : List (List ℕ)
  pub returned : GuardsReceipts H 0 state first subtrees leaves

-- An act of a node. Accepts: it accepts the head of a text that it read from the lock, or of a step that it made. Signs: it has a head signed. Promises: it has the
-- receipts of a step signed.
pub data NodeAct (H : List ℕ → List ℕ) : Type 0 where
  Accepts : AcceptCall H → NodeAct H
  Signs : Head → NodeAct H
  Promises : ReceiptsCall H → NodeAct H

-- Acts of one node, in their order; `accepted` is the newest head that it accepted before them. Each call is over the newest accepted head, or over its state, and
-- each head that is signed is the newest accepted one. It is not asked what the lock held at any time.
unfoldable pub AreActs : (H : List ℕ → List ℕ) → Head → List (NodeAct H) → Type 0
AreActs H accepted [] = ⊤
AreActs H accepted (Accepts c ∷ acts) = (c.accepted ≡ accepted) × AreActs H c.head acts
AreActs H accepted (Signs head ∷ acts) = (head ≡ accepted) × AreActs H accepted acts
AreActs H accepted (Promises r ∷ acts) = IsStateOf accepted r.state × AreActs H accepted acts

-- the newest head that the node accepted
unfoldable pub newest_accepted : {H : List ℕ → List ℕ} → Head → List (NodeAct H) → Head
newest_accepted accepted [] = accepted
newest_accepted accepted (Accepts c ∷ acts) = newest_accepted c.head acts
newest_accepted accepted (Signs head ∷ acts) = newest_accepted accepted acts
newest_accepted accepted (Promises r ∷ acts) = newest_accepted accepted acts

-- the heads that it accepted, with their proofs, as ct_guard's laws speak of heads
unfoldable pub accepted_steps : {H : List ℕ → List ℕ} → List (NodeAct H) → List HeadStep
accepted_steps [] = []
accepted_steps (Accepts c ∷ acts) = record { head = c.head; proof = c.proof } ∷ accepted_steps acts
accepted_steps (Signs head ∷ acts) = accepted_steps acts
accepted_steps (Promises r ∷ acts) = accepted_steps acts

-- the head that it accepted before, and after it those
abbrev pub seen_steps : {H : List ℕ → List ℕ} → Head → List (NodeAct H) → List HeadStep
seen_steps accepted acts = record { head = accepted; proof = [] } ∷ accepted_steps acts

-- these are the leaves of D from this index on
abbrev pub AreLeavesFrom : List (List ℕ) → ℕ → List (List ℕ) → Type 0
AreLeavesFrom D first E = (first + length E ≤ length D) × (E ≡ drop first (take (first + length E) D))

-- The act belongs to the list D: the head is that of a beginning of D, or it has no leaves; and the leaves of the receipts are in D at their indexes.
abbrev pub IsActOf : {H : List ℕ → List ℕ} → List (List ℕ) → NodeAct H → Type 0
IsActOf {H} D (Accepts c) = IsHeadOfFirst H D c.head
IsActOf {H} D (Signs head) = IsHeadOfFirst H D head
IsActOf {H} D (Promises r) = AreLeavesFrom D r.first r.leaves

-- all these acts do
unfoldable pub AreActsOf : {H : List ℕ → List ℕ} → List (List ℕ) → List (NodeAct H) → Type 0
AreActsOf D [] = ⊤
AreActsOf D (act ∷ acts) = IsActOf D act × AreActsOf D acts

-- the string is hashed when the receipts of one of these acts are let through, or in the tree of a beginning of D
unfoldable pub IsHashedForPromises : (H : List ℕ → List ℕ) → List (List ℕ) → List (NodeAct H) → List ℕ → Type 0
IsHashedForPromises H D [] x = ⊥
IsHashedForPromises H D (Accepts c ∷ acts) x = IsHashedForPromises H D acts x
IsHashedForPromises H D (Signs head ∷ acts) x = IsHashedForPromises H D acts x
IsHashedForPromises H D (Promises r ∷ acts) x =
    ((n : ℕ) × (n ≤ length D) × IsHashedForStep H (take n D) r.first r.subtrees r.leaves x) ⊎ IsHashedForPromises H D acts x

-- the string is hashed for the heads that the node accepted, or for the receipts
abbrev pub IsHashedForActs : (H : List ℕ → List ℕ) → Head → List (NodeAct H) → List (List ℕ) → List ℕ → Type 0
IsHashedForActs H accepted acts D x = IsHashedForHeads H None (seen_steps accepted acts) D x ⊎ IsHashedForPromises H D acts x

-- Take the acts of one node, over any lock. The heads that it accepted were let through one after the other, as ct_guard's laws speak of heads.
abbrev pub AcceptedAreSteps : Type 0
AcceptedAreSteps =
    (H : List ℕ → List ℕ) (accepted : Head) (acts : List (NodeAct H)) → AreActs H accepted acts → AreHeadSteps H None (seen_steps accepted acts)

-- Take the acts of one node, over any lock, of which the newest accepted head is that of the list D. Each head that the node accepted or had signed is that of a
-- beginning of D; the head that it accepted before is one, too; the leaves of each receipt that it had signed are in D; or two of the strings that are hashed collide.
abbrev pub ActsAreOfOneLog : Type 0
ActsAreOfOneLog =
    (H : List ℕ → List ℕ) → ((x : List ℕ) → length (H x) ≡ 32)
    → (accepted : Head) (acts : List (NodeAct H)) → AreActs H accepted acts
    → (D : List (List ℕ)) → IsHeadOfAll H D (newest_accepted accepted acts)
    → (IsHeadOfFirst H D accepted × AreActsOf D acts) ⊎ CollideAmong H (IsHashedForActs H accepted acts D)

-- the string is hashed for these heads, or when the receipts of a step are let through, or in the tree of a beginning of D
abbrev pub IsHashedForStepReceipts : (H : List ℕ → List ℕ) → Option Head → List (HeadCall H) → List (List ℕ) → ReceiptsCall H → List ℕ → Type 0
IsHashedForStepReceipts H last calls D r x =
    IsHashedForHeads H last (head_steps_of calls) D x
    ⊎ ((n : ℕ) × (n ≤ length D) × IsHashedForStep H (take n D) r.first r.subtrees r.leaves x)

-- Take any heads that were signed over one register, of which the newest is that of the list D, and any call that let the receipts of a step through after one of
-- them. The leaves of the step are in D from its first index on, or two of the strings that are hashed collide.
abbrev pub StepReceiptsStandInNewest : Type 0
StepReceiptsStandInNewest =
    (H : List ℕ → List ℕ) → ((x : List ℕ) → length (H x) ≡ 32)
    → (last : Option Head) (held : Option (List ℕ)) → HoldsStateOf last held → (calls : List (HeadCall H)) → AreTaken H held calls
    → (D : List (List ℕ)) → NewestIsOf H D (head_steps_of calls)
    → (c : HeadCall H) → Contains calls c → (r : ReceiptsCall H) → r.state ≡ c.signed
    → AreLeavesFrom D r.first r.leaves ⊎ CollideAmong H (IsHashedForStepReceipts H last calls D r)
