-- The report on the entries that a log handed out: the first that is later than the waiting head, and the first that is not a leaf.
use Rattle.std.specs.Prelude.{◌≡◌, ◌≢◌, ◌⊎◌, ◌+◌, ◌-◌, ◌<◌, ◌≤◌, ℕ, List, All, get_or, length, take, Option, Some, None, []}
use Rattle.ct_codec.specs.Leaf.{SignedEntry, LeafText}
use Rattle.ct_codec.specs.Faults.{LeafFaulty}
use Rattle.ct_codec.specs.declared.fault.DecodeFault.{DecodeFault}
use Rattle.ct_codec.specs.declared.fault.DecodeFault.TheVariants.{Memory}
use Rattle.ct_tree.specs.declared.head.Head.{Head}
use Rattle.ct_monitor.specs.WatcherState.{WatcherState}
use Rattle.ct_monitor.specs.declared.entries.LaterEntry.{LaterEntry}
use Rattle.ct_monitor.specs.declared.entries.FaultyEntry.{FaultyEntry}

-- the bytes are a leaf with this timestamp, in milliseconds (RFC 6962, section 3.4)
abbrev pub HasTimestamp : ℕ → List ℕ → Type 0
HasTimestamp timestamp bytes = (e : SignedEntry) × (x : List ℕ) × LeafText timestamp e x bytes

-- the bytes are a leaf
abbrev pub IsLeafInBytes : List ℕ → Type 0
IsLeafInBytes bytes = (timestamp : ℕ) × HasTimestamp timestamp bytes

-- the bytes are not a leaf, and this is their first fault
abbrev pub IsFaulty : DecodeFault → List ℕ → Type 0
IsFaulty fault bytes = LeafFaulty fault bytes × (fault ≢ Memory)

-- the bytes are a leaf with this timestamp, and later than a head with the timestamp `moment` (RFC 6962, section 3.5: a head is at least as
-- recent as each entry of its tree)
abbrev pub IsLaterThan : ℕ → ℕ → List ℕ → Type 0
IsLaterThan moment timestamp bytes = HasTimestamp timestamp bytes × (moment < timestamp)

-- the bytes are a leaf that is not later than that head, or they are not a leaf
abbrev pub IsNoLaterThan : ℕ → List ℕ → Type 0
IsNoLaterThan moment bytes = ((timestamp : ℕ) × HasTimestamp timestamp bytes × (timestamp ≤ moment)) ⊎ ((fault : DecodeFault) × IsFaulty fault bytes)

-- of leaves from an index on, the first that is later than that head, or none
abbrev pub IsFirstLater : ℕ → ℕ → List (List ℕ) → Option LaterEntry → Type 0
IsFirstLater moment first leaves None = All (IsNoLaterThan moment) leaves
IsFirstLater moment first leaves (Some e) =
    (place : ℕ) × (place < length leaves) × (e.index ≡ first + place) × All (IsNoLaterThan moment) (take place leaves)
    × IsLaterThan moment e.timestamp (get_or leaves place [])

-- of leaves from an index on, the first that is not a leaf, or none
abbrev pub IsFirstFaulty : ℕ → List (List ℕ) → Option FaultyEntry → Type 0
IsFirstFaulty first leaves None = All IsLeafInBytes leaves
IsFirstFaulty first leaves (Some e) =
    (place : ℕ) × (place < length leaves) × (e.index ≡ first + place) × All IsLeafInBytes (take place leaves) × IsFaulty e.fault (get_or leaves place [])

-- the timestamp of the waiting head; 0 if none waits, in which case no entry is read
abbrev pub moment_awaited : Option Head → ℕ
moment_awaited None = 0
moment_awaited (Some head) = head.timestamp

-- the size of the waiting head; if none waits, the number of leaves that were read
abbrev pub size_awaited : Option Head → ℕ → ℕ
size_awaited None read = read
size_awaited (Some head) read = head.tree_size

-- the entries of E that are read, as far as the waiting head goes
abbrev pub leaves_to_read : WatcherState → List (List ℕ) → List (List ℕ)
leaves_to_read s E = take (size_awaited s.waiting s.all.0 - s.all.0) E
