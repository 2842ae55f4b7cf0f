-- The laws of many calls of the guard, which any number of processes make over one register. H is any hash function on byte lists with hashes of 32
-- bytes. The library's is SHA-256.
use Rattle.std.specs.Prelude.{◌≡◌, ◌⊎◌, ◌<◌, ⊤, All, ℕ, List, [], ◌∷◌, Contains, length, map, get_or, Option, Some, None, ◌≤◌, take}
use Rattle.ct_guard.specs.History.{Passed, AreBeginnings, IsHashedForPassed}
use Rattle.ct_guard.specs.NewestHead.{HeadStep, AreHeadSteps, NewestIsOf, IsHeadOfFirst, IsHashedForHeads}
use Rattle.ct_monitor.specs.Heads.{IsHeadOfAll}
use Rattle.ct_tree.specs.declared.head.Head.{Head}
use Rattle.ct_verify.specs.Hashed.{CollideAmong}
use Rattle.ct_verify.specs.ListLaws.{IsHashedInAudit}
use Rattle.libwagtenib.specs.Guard.{head_of_c, GuardsFirstHead, GuardsHead, GuardsReceipt, IsStateOf, IsOfNoHead, ReadsGuardState}
use Rattle.libwagtenib.specs.declared.head.TreeHead.{TreeHead}

-- A call is made over no state, with the head that the operator named, or over this state, the last TreeHeadSignature.
pub data Over : Type 0 where
  no_state : Head → Over
  the_state : List ℕ → Over

-- A call for this head returned 0 and wrote these bytes: of `wagtenib_guard_first_head`, to which no proof is handed in, or of `wagtenib_guard_head`.
abbrev pub LetsThrough : (List ℕ → List ℕ) → Over → Head → List (List ℕ) → ℕ → List ℕ → List ℕ → Type 0
LetsThrough H (no_state named) head proof ahead before signed = (proof ≡ []) × GuardsFirstHead H 0 head named before signed
LetsThrough H (the_state state) head proof ahead before signed = GuardsHead H 0 state head proof ahead before signed

-- a call that let a head through: its arguments, the bytes in the caller's memory before it, and the bytes that it wrote there
pub record HeadCall (H : List ℕ → List ℕ) : Type 0 where
  pub over : Over
  pub head : Head
  pub proof : List (List ℕ)
  pub ahead : ℕ
  pub before : List ℕ
  pub signed : List ℕ
  pub returned : LetsThrough H over head proof ahead before signed

-- the content of a register if a call was made over it: nothing, or this state
abbrev pub held_of : Over → Option (List ℕ)
held_of (no_state named) = None
held_of (the_state state) = Some state

-- Such calls, in the order in which one register answered that it holds the bytes that they wrote. For each of them it held the state that the call was made
-- over, or these bytes already. The bytes are signed after the answer. The law does not ask which processes made the calls, which other calls they made, which
-- calls never came back, or what was read from the register.
unfoldable pub AreTaken : (H : List ℕ → List ℕ) → Option (List ℕ) → List (HeadCall H) → Type 0
AreTaken H held [] = ⊤
AreTaken H held (c ∷ calls) = ((held ≡ held_of c.over) ⊎ (held ≡ Some c.signed)) × AreTaken H (Some c.signed) calls

-- a register holds the state of this head, or nothing where there is none
abbrev pub HoldsStateOf : Option Head → Option (List ℕ) → Type 0
HoldsStateOf None held = held ≡ None
HoldsStateOf (Some head) held = (state : List ℕ) × IsStateOf head state × (held ≡ Some state)

-- a head that was let through, and its proof, as ct_guard's laws speak of them
abbrev pub head_step_of : {H : List ℕ → List ℕ} → HeadCall H → HeadStep
head_step_of c = record { head = c.head; proof = c.proof }

-- the heads that were signed, with their proofs
abbrev pub head_steps_of : {H : List ℕ → List ℕ} → List (HeadCall H) → List HeadStep
head_steps_of calls = map head_step_of calls

-- the same of a head with a list of leaves whose head it is
abbrev pub passed_step : Passed → HeadStep
passed_step p = record { head = p.head; proof = p.proof }

-- Take any heads that were signed over one register. Each was let through after the one before it, as ct_guard's laws speak of heads.
abbrev pub TakenAreSteps : Type 0
TakenAreSteps =
    (H : List ℕ → List ℕ) (last : Option Head) (held : Option (List ℕ)) → HoldsStateOf last held → (calls : List (HeadCall H)) → AreTaken H held calls
    → AreHeadSteps H last (head_steps_of calls)

-- Take any such heads, each of which is that of some list of leaves (passed). For every two of them, the earlier one's list begins the later one's, or two
-- of the strings that are hashed collide.
abbrev pub TakenAgree : Type 0
TakenAgree =
    (H : List ℕ → List ℕ) → ((x : List ℕ) → length (H x) ≡ 32)
    → (last : Option Head) (held : Option (List ℕ)) → HoldsStateOf last held → (calls : List (HeadCall H)) → AreTaken H held calls
    → (passed : List Passed) → map passed_step passed ≡ head_steps_of calls
    → All (λ (p : Passed). IsHeadOfAll H p.leaves p.head) passed → AreBeginnings passed ⊎ CollideAmong H (IsHashedForPassed H last passed)

-- Take any such heads, of which the newest is that of a list of leaves. Each of them that has leaves is that of a beginning of this list, or two of the
-- strings that are hashed collide. The roots of the others may be any.
abbrev pub TakenGoBack : Type 0
TakenGoBack =
    (H : List ℕ → List ℕ) → ((x : List ℕ) → length (H x) ≡ 32)
    → (last : Option Head) (held : Option (List ℕ)) → HoldsStateOf last held → (calls : List (HeadCall H)) → AreTaken H held calls
    → (D : List (List ℕ)) → NewestIsOf H D (head_steps_of calls)
    → All (λ (s : HeadStep). IsHeadOfFirst H D s.head) (head_steps_of calls) ⊎ CollideAmong H (IsHashedForHeads H last (head_steps_of calls) D)

-- A call of `wagtenib_guard_receipt` returned 0.
pub record ReceiptCall (H : List ℕ → List ℕ) : Type 0 where
  pub state : List ℕ
  pub leaf : List ℕ
  pub index : ℕ
  pub path : List (List ℕ)
  pub returned : GuardsReceipt H 0 state leaf index path

-- the string is hashed for these heads, or when a receipt's path is checked, or in the tree of so many leaves of D as its head has
abbrev pub IsHashedForReceipt : (H : List ℕ → List ℕ) → Option Head → List (HeadCall H) → List (List ℕ) → ReceiptCall H → List ℕ → Type 0
IsHashedForReceipt H last calls D r x =
    IsHashedForHeads H last (head_steps_of calls) D x
    ⊎ ((n : ℕ) × (n ≤ length D) × IsHashedInAudit H (take n D) r.leaf r.index r.path x)

-- Take any such heads, of which the newest is that of a list of leaves, and any call that let a receipt through after one of them. The receipt's leaf is in
-- this list at its index, or two of the strings that are hashed collide.
abbrev pub ReceiptsStandInNewest : Type 0
ReceiptsStandInNewest =
    (H : List ℕ → List ℕ) → ((x : List ℕ) → length (H x) ≡ 32)
    → (last : Option Head) (held : Option (List ℕ)) → HoldsStateOf last held → (calls : List (HeadCall H)) → AreTaken H held calls
    → (D : List (List ℕ)) → NewestIsOf H D (head_steps_of calls)
    → (c : HeadCall H) → Contains calls c → (r : ReceiptCall H) → r.state ≡ c.signed
    → ((r.index < length D) × (r.leaf ≡ get_or D r.index [])) ⊎ CollideAmong H (IsHashedForReceipt H last calls D r)

-- The bytes of a leaf that was let through are the TreeHeadSignature of no head. So no signature of a receipt is one of a head.
abbrev pub ReceiptsAreNoHeads : Type 0
ReceiptsAreNoHeads = (H : List ℕ → List ℕ) (r : ReceiptCall H) → IsOfNoHead r.leaf

-- No two heads have the same state.
abbrev pub StatesDiffer : Type 0
StatesDiffer = (a b : Head) (state : List ℕ) → IsStateOf a state → IsStateOf b state → a ≡ b

-- A call of `wagtenib_guard_state` that reads a head's state, without another one that was seen, returns 0 and writes this head.
abbrev pub StatesAreReadBack : Type 0
StatesAreReadBack =
    (head : Head) (state : List ℕ) → IsStateOf head state → (code : ℕ) (before after : TreeHead) → ReadsGuardState code state state before after
    → (code ≡ 0) × (head_of_c after ≡ head)
