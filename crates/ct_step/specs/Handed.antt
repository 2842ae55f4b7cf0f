-- Many sequencers over one lock that holds the log's head, each of which receives the right edge from elsewhere. H is any hash function on
-- byte lists with digests of 32 bytes.
use Rattle.std.specs.Prelude.{◌≡◌, ◌⊎◌, ⊤, true, false, ℕ, ◌≤◌, if◌then◌else◌, List, [], ◌∷◌, ◌++◌, length, map, take}
use Rattle.ct_codec.specs.Submitted.{entry_of}
use Rattle.ct_tree.specs.declared.head.Head.{Head}
use Rattle.ct_verify.specs.Hashed.{CollideAmong}
use Rattle.ct_step.specs.Believed.{BelievesState, IsHeadOver, IsHashedInEdgeOf}
use Rattle.ct_step.specs.EdgeStrings.{IsHashedInEdge}
use Rattle.ct_step.specs.Leaves.{indexed_leaves}
use Rattle.ct_step.specs.History.{Attempt, IsMade, taken, CarryOn}
use Rattle.ct_verify.specs.ConsistencyEvidence.{IsBeginning}

-- An attempt that received its right edge: the head that was read (`head`), the partial tiles that were received (`tiles`), and the attempt
-- from the state that was believed from these (`attempt`).
pub record HandedAttempt : Type 0 where
  pub head : Head
  pub tiles : List (List (List ℕ))
  pub attempt : Attempt

-- the attempt's state is the result of `State::believed` for the head and the tiles, and its step is the result of `grow` for that state
abbrev pub IsMadeOfHanded : (List ℕ → List ℕ) → HandedAttempt → Type 0
IsMadeOfHanded H b = BelievesState H b.head b.tiles b.attempt.seen × IsMade H b.attempt

-- Attempts in the order in which the lock answered, beginning with the head that it held. It took a head only in place of the one that it
-- held. The tiles may come from anywhere.
unfoldable pub AreHandedAttempts : (List ℕ → List ℕ) → Head → List HandedAttempt → Type 0
AreHandedAttempts H held [] = ⊤
AreHandedAttempts H held (b ∷ rest) =
    IsMadeOfHanded H b
    × (((b.attempt.took ≡ true) × (b.head ≡ held) × AreHandedAttempts H b.attempt.growth.head rest)
    ⊎ ((b.attempt.took ≡ false) × AreHandedAttempts H held rest))

-- the attempts themselves
abbrev pub attempts_of : List HandedAttempt → List Attempt
attempts_of attempts = map (λ b. b.attempt) attempts

-- the leaves after these attempts: those that were known, followed by those of each attempt whose head the lock took
unfoldable pub leaves_after : List (List ℕ) → List HandedAttempt → List (List ℕ)
leaves_after known [] = known
leaves_after known (b ∷ rest) =
    leaves_after (if b.attempt.took then known ++ indexed_leaves b.attempt.now (length known) (map entry_of b.attempt.batch) else known) rest

-- the strings that are hashed when roots are computed from the received tiles
unfoldable pub IsHashedInTiles : (List ℕ → List ℕ) → List HandedAttempt → List ℕ → Type 0
IsHashedInTiles H [] s = ⊥
IsHashedInTiles H (b ∷ rest) s = IsHashedInEdge H b.tiles s ⊎ IsHashedInTiles H rest s

-- the strings that are hashed when roots are computed from the right edges of the beginnings of a list of leaves
abbrev pub IsHashedInEdgesOf : (List ℕ → List ℕ) → List (List ℕ) → List ℕ → Type 0
IsHashedInEdgesOf H D s = (n : ℕ) × (n ≤ length D) × IsHashedInEdgeOf H (take n D) s

-- Let D be the leaves that were known, followed by those of each attempt whose head the lock took. All steps of these attempts carry on D.
-- The alternative is a collision of two strings that are hashed when roots are computed from the received tiles, or from the right edges of
-- the beginnings of D.
abbrev pub HandedSequencersAgree : Type 0
HandedSequencersAgree =
    (H : List ℕ → List ℕ) → ((x : List ℕ) → length (H x) ≡ 32) → (held : Head) (known : List (List ℕ)) (attempts : List HandedAttempt)
    → IsHeadOver H known held → AreHandedAttempts H held attempts → (D : List (List ℕ)) → D ≡ leaves_after known attempts
    → (IsBeginning known D × CarryOn H held.timestamp D (taken (attempts_of attempts)))
    ⊎ CollideAmong H (λ s. IsHashedInTiles H attempts s ⊎ IsHashedInEdgesOf H D s)
