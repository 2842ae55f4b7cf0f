-- The law of many heads that were let through, if the newest is that of a list. H is any hash function on byte lists with hashes of 32 bytes.
use Rattle.std.specs.Prelude.{◌≡◌, ◌⊎◌, ◌<◌, ◌≤◌, ⊤, ℕ, List, [], ◌∷◌, ◌++◌, length, take, Some, All, Contains}
use Rattle.std.specs.declared.option.Option.{Option}
use Rattle.ct_tree.specs.Tree.{mth_of_leaves}
use Rattle.ct_tree.specs.declared.head.Head.{Head}
use Rattle.ct_monitor.specs.Heads.{IsHeadOfAll}
use Rattle.ct_verify.specs.Hashed.{CollideAmong, IsHashedInLog}
use Rattle.ct_verify.specs.Laws.{AreHashes}
use Rattle.ct_guard.specs.Guarded.{PassesHead}
use Rattle.ct_guard.specs.History.{head_strings}

-- A head that was let through, and the proof that was handed in with it (elements of 32 bytes).
pub record HeadStep : Type 0 where
  pub head : Head
  pub proof : List (List ℕ)

-- heads that were let through one after the other, the first of them after the head `last`
unfoldable pub AreHeadSteps : (List ℕ → List ℕ) → Option Head → List HeadStep → Type 0
AreHeadSteps H last [] = ⊤
AreHeadSteps H last (s ∷ steps) = PassesHead H last s.head s.proof × AreHashes s.proof × AreHeadSteps H (Some s.head) steps

-- the newest of them, if there is one, is the head of the leaves D
unfoldable pub NewestIsOf : (List ℕ → List ℕ) → List (List ℕ) → List HeadStep → Type 0
NewestIsOf H D [] = ⊤
NewestIsOf H D (s ∷ []) = IsHeadOfAll H D s.head
NewestIsOf H D (s ∷ t ∷ steps) = NewestIsOf H D (t ∷ steps)

-- if the head has leaves, it is that of the first leaves of D
abbrev pub IsHeadOfFirst : (List ℕ → List ℕ) → List (List ℕ) → Head → Type 0
IsHeadOfFirst H D head = 0 < head.tree_size → (head.tree_size ≤ length D) × (head.root ≡ mth_of_leaves H (take head.tree_size D))

-- the strings that are hashed when the proofs of these heads are checked
unfoldable pub step_strings : (List ℕ → List ℕ) → Option Head → List HeadStep → List (List ℕ)
step_strings H last [] = []
step_strings H last (s ∷ steps) = head_strings H last s.head s.proof ++ step_strings H (Some s.head) steps

-- the strings that are hashed when these heads are let through, and those in the trees of the beginnings of D
abbrev pub IsHashedForHeads : (List ℕ → List ℕ) → Option Head → List HeadStep → List (List ℕ) → List ℕ → Type 0
IsHashedForHeads H last steps D x = Contains (step_strings H last steps) x ⊎ IsHashedInLog H D x

-- If the newest of the heads that were let through is that of a list, each of them that has leaves is that of a beginning of it, or two of the strings
-- that are hashed collide.
abbrev pub HeadsGoBack : Type 0
HeadsGoBack =
    (H : List ℕ → List ℕ) → ((x : List ℕ) → length (H x) ≡ 32) → (last : Option Head) (steps : List HeadStep) (D : List (List ℕ))
    → AreHeadSteps H last steps → NewestIsOf H D steps
    → All (λ s. IsHeadOfFirst H D s.head) steps ⊎ CollideAmong H (IsHashedForHeads H last steps D)
