-- Many sequencers over one lock that holds the log's state. H is any hash function on byte lists.
use Rattle.std.specs.Prelude.{◌≡◌, ◌⊎◌, ⊤, Bool, true, false, ℕ, ◌*◌, ◌<◌, ◌≤◌, List, [], ◌∷◌, length, map, take, drop, filter, slice_index_or, All, AllPairs}
use Rattle.ct_codec.specs.Submitted.{Submitted, entry_of}
use Rattle.ct_tree.specs.Tree.{hash_leaf, mth_of_leaves}
use Rattle.ct_tiles.specs.Tiles.{hashes}
use Rattle.ct_step.specs.Leaves.{receipts_from, receipt_parts}
use Rattle.ct_step.specs.Growths.{IsState, IsGrowth, MayGrow}
use Rattle.ct_step.specs.declared.growth.Growth.{Growth}
use Rattle.ct_step.specs.declared.growth.State.{State}
use Rattle.ct_verify.specs.ConsistencyEvidence.{IsBeginning}

-- An attempt to carry on the log: the state that was read (`seen`), the submissions (`batch`), the timestamp (`now`), the step that was
-- made from these (`growth`), and whether the lock took the step's state in place of the one that was read (`took`).
pub record Attempt : Type 0 where
  pub seen : State
  pub batch : List Submitted
  pub now : ℕ
  pub growth : Growth
  pub took : Bool

-- the attempt's step is the result of `grow` for its state, its batch and its timestamp
abbrev pub IsMade : (List ℕ → List ℕ) → Attempt → Type 0
IsMade H a = MayGrow a.seen (length a.batch) a.now × ((D : List (List ℕ)) → IsState H a.seen D → IsGrowth H D (map entry_of a.batch) a.now a.growth)

-- Attempts in the order in which the lock answered, beginning with the state that it held. It took a state only in place of the one that it
-- held. Nothing is assumed about the maker of an attempt, or about what happened to the maker afterwards.
unfoldable pub AreAttempts : (List ℕ → List ℕ) → State → List Attempt → Type 0
AreAttempts H held [] = ⊤
AreAttempts H held (a ∷ rest) =
    IsMade H a × (((a.took ≡ true) × (a.seen ≡ held) × AreAttempts H a.growth.state rest) ⊎ ((a.took ≡ false) × AreAttempts H held rest))

-- the attempts whose states the lock took, in order
abbrev pub taken : List Attempt → List Attempt
taken attempts = filter (λ a. a.took) attempts

-- a row of tiles of a level is a part of the level's tiles, from the row's first tile on
abbrev pub IsRowOf : (List ℕ → List ℕ) → List (List ℕ) → ℕ → ℕ × List (List ℕ) → Type 0
IsRowOf H D level r = r.1 ≡ take (length r.1) (drop (256 * r.0) (hashes H 256 level D))

-- Everything that an attempt's step wrote and promised belongs to the leaves D:
-- - Its head is that of a beginning of D (`size`, `root`) with the attempt's timestamp (`moment`).
-- - Each submission of its batch has its receipt, in order, from the index `first` on (`receipts`).
-- - The bytes to be signed for it are the leaf at that index of D (`leaves`).
-- - Each level's row of tiles is that of D (`rows`).
pub record IsOfList (H : List ℕ → List ℕ) (D : List (List ℕ)) (a : Attempt) : Type 0 where
  pub size : a.growth.head.tree_size ≤ length D
  pub root : a.growth.head.root ≡ mth_of_leaves H (take a.growth.head.tree_size D)
  pub moment : a.growth.head.timestamp ≡ a.now
  pub receipts : map receipt_parts a.growth.receipts.items ≡ receipts_from a.now a.growth.first (map entry_of a.batch)
  pub leaves : map (λ r. r.signed.items) a.growth.receipts.items ≡ take (length a.batch) (drop a.growth.first D)
  pub rows : (level : ℕ) → level < 8
      → IsRowOf H (map (hash_leaf H) D) level (slice_index_or (map (λ r. (r.first, r.hashes.items)) a.growth.rows.items) level (0, []))

-- the attempt b came after the attempt a: its timestamp is later, and its leaves begin at the end of those of a's head, or after it
pub record ComesBehind (a b : Attempt) : Type 0 where
  pub moment : a.growth.head.timestamp < b.growth.head.timestamp
  pub leaves : a.growth.head.tree_size ≤ b.growth.first

-- Steps, in the order in which they were taken, carry on one log with the leaves D, from a state that was held at the timestamp `since`:
-- - Everything that each step wrote and promised belongs to D (`all`).
-- - Each timestamp is later than `since` (`later`).
-- - For any two steps, the second came after the first (`order`).
pub record CarryOn (H : List ℕ → List ℕ) (since : ℕ) (D : List (List ℕ)) (steps : List Attempt) : Type 0 where
  pub all : All (IsOfList H D) steps
  pub later : All (λ a. since < a.growth.head.timestamp) steps
  pub order : AllPairs ComesBehind steps

-- There is one list of leaves that all the steps carry on whose states the lock took. It begins with the leaves that were known.
abbrev pub SequencersAgree : Type 0
SequencersAgree =
    (H : List ℕ → List ℕ) (held : State) (known : List (List ℕ)) (attempts : List Attempt) → IsState H held known → AreAttempts H held attempts
    → (D : List (List ℕ)) × IsBeginning known D × CarryOn H held.timestamp D (taken attempts)
