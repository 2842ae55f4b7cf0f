-- The laws of many heads and receipts that were let through. H is any hash function on byte lists with hashes of 32 bytes.
use Rattle.std.specs.Prelude.{◌≡◌, ◌⊎◌, ◌<◌, ⊤, ℕ, true, List, [], ◌∷◌, ◌++◌, length, get_or, None, Some, Contains}
use Rattle.std.specs.declared.option.Option.{Option}
use Rattle.ct_tree.specs.Tree.{hash_leaf}
use Rattle.ct_tree.specs.declared.head.Head.{Head}
use Rattle.ct_monitor.specs.Heads.{IsHeadOfAll}
use Rattle.ct_verify.specs.ConsistencyEvidence.{IsBeginning}
use Rattle.ct_verify.specs.Hashed.{CollideAmong, IsHashedInLog, proof_strings}
use Rattle.ct_verify.specs.ListLaws.{IsHashedInAudit}
use Rattle.ct_verify.specs.Laws.{AreHashes}
use Rattle.ct_verify.specs.Verdict.{AcceptsInclusion}
use Rattle.ct_guard.specs.Guarded.{PassesHead}

-- A head that was let through: the head, the proof that was handed in with it (elements of 32 bytes), and the leaves of the list whose head it is.
-- Nobody needs to have this list.
pub record Passed : Type 0 where
  pub head : Head
  pub proof : List (List ℕ)
  pub leaves : List (List ℕ)

-- heads that were let through one after the other, the first of them after the head `last`
unfoldable pub ArePassed : (List ℕ → List ℕ) → Option Head → List Passed → Type 0
ArePassed H last [] = ⊤
ArePassed H last (s ∷ steps) =
    PassesHead H last s.head s.proof × AreHashes s.proof × IsHeadOfAll H s.leaves s.head × ArePassed H (Some s.head) steps

-- the list D begins that of each of these heads
unfoldable pub BeginsAll : List (List ℕ) → List Passed → Type 0
BeginsAll D [] = ⊤
BeginsAll D (s ∷ steps) = IsBeginning D s.leaves × BeginsAll D steps

-- for every two of these heads, the earlier one's list begins the later one's
unfoldable pub AreBeginnings : List Passed → Type 0
AreBeginnings [] = ⊤
AreBeginnings (s ∷ steps) = BeginsAll s.leaves steps × AreBeginnings steps

-- the strings that are hashed when the proof p from the last head to this one is checked: none if there is no last head
abbrev pub head_strings : (List ℕ → List ℕ) → Option Head → Head → List (List ℕ) → List (List ℕ)
head_strings H None head p = []
head_strings H (Some last) head p = proof_strings H last.tree_size head.tree_size true last.root p

-- the strings that are hashed when the proofs of these heads are checked
unfoldable pub passed_strings : (List ℕ → List ℕ) → Option Head → List Passed → List (List ℕ)
passed_strings H last [] = []
passed_strings H last (s ∷ steps) = head_strings H last s.head s.proof ++ passed_strings H (Some s.head) steps

-- the string is hashed in the tree of a beginning of one of the lists whose heads these are
unfoldable pub IsHashedInLists : (List ℕ → List ℕ) → List Passed → List ℕ → Type 0
IsHashedInLists H [] x = ⊥
IsHashedInLists H (s ∷ steps) x = IsHashedInLog H s.leaves x ⊎ IsHashedInLists H steps x

-- the strings that are hashed when these heads are let through, and those in the trees of their lists
abbrev pub IsHashedForPassed : (List ℕ → List ℕ) → Option Head → List Passed → List ℕ → Type 0
IsHashedForPassed H last steps x = Contains (passed_strings H last steps) x ⊎ IsHashedInLists H steps x

-- For every two heads that were let through, the earlier one's list begins the later one's, or two of the strings that are hashed collide.
abbrev pub PassedHeadsAgree : Type 0
PassedHeadsAgree =
    (H : List ℕ → List ℕ) → ((x : List ℕ) → length (H x) ≡ 32) → (last : Option Head) (steps : List Passed) → ArePassed H last steps
    → AreBeginnings steps ⊎ CollideAmong H (IsHashedForPassed H last steps)

-- A leaf whose audit path leads to the last head's root is at its index in the list D of that head, or two of the strings that are hashed collide. The
-- audit path of each receipt that is let through leads there.
abbrev pub PassedReceiptsStand : Type 0
PassedReceiptsStand =
    (H : List ℕ → List ℕ) → ((x : List ℕ) → length (H x) ≡ 32) → (last : Head) (D : List (List ℕ)) (b : List ℕ) (m : ℕ) (p : List (List ℕ))
    → IsHeadOfAll H D last → AcceptsInclusion H (hash_leaf H b) m last.tree_size p last.root
    → ((m < length D) × (b ≡ get_or D m [])) ⊎ CollideAmong H (IsHashedInAudit H D b m p)
