-- The identities of a tiled log's leaves.
use Rattle.std.specs.Prelude.{◌≡◌, ℕ, ◌-◌, ◌<◌, ◌≤◌, List, length, take, drop, slice_index_or, AllPairs}
use Rattle.ct_codec.specs.Submitted.{Submitted, entry_of, identity_of}
use Rattle.ct_step.specs.Leaves.{indexed_leaf}

-- The identity of a leaf whose extension has its index: the entry type and the signed entry (RFC 6962, section 3.4). These are between its
-- first 10 bytes (version, leaf type and timestamp) and its last 10 (the extensions, which have the index).
unfoldable pub identity_of_leaf : List ℕ → List ℕ
identity_of_leaf b = take (length b - 20) (drop 10 b)

-- the leaf of a submission with any timestamp and any index has the submission's identity
abbrev pub LeavesKeepIdentities : Type 0
LeavesKeepIdentities = (t i : ℕ) (s : Submitted) → identity_of_leaf (indexed_leaf t (entry_of s) i) ≡ identity_of s

-- no identity occurs twice in the list
abbrev pub AreApart : List (List ℕ) → Type 0
AreApart identities = AllPairs (λ x y. ¬ (x ≡ y)) identities

-- no identity at the index n or after it occurs earlier in the list
abbrev pub AreNewFrom : ℕ → List (List ℕ) → Type 0
AreNewFrom n identities =
    (i j : ℕ) (d : List ℕ) → i < j → n ≤ j → j < length identities → ¬ (slice_index_or identities i d ≡ slice_index_or identities j d)
