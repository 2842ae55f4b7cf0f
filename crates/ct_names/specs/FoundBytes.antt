-- The bytes of a list of watched names, and of the names that are found, in the presentation language of RFC 5246 (section 4).
use Rattle.std.specs.Prelude.{◌≡◌, ◌<◌, ◌^◌, ◌+◌, ◌++◌, ℕ, List, [], ◌∷◌, All, length, Option, Some, None}
use Rattle.std.specs.List.{flat_map}
use Rattle.ct_codec.specs.Bytes.{num, vec}
use Rattle.ct_names.specs.Covers.{plain_of}
use Rattle.ct_names.specs.Names.{Named}
use Rattle.ct_names.specs.Reading.{Fails}
use Rattle.ct_names.specs.Watched.{found_in, IsFound}
use Rattle.ct_names.specs.declared.watched.FoundIn.{FoundIn}
use Rattle.ct_names.specs.declared.watched.FoundIn.TheVariants.{AltName, CommonName}
use Rattle.ct_names.specs.declared.fault.NamesFault.{NamesFault}
use Rattle.ct_names.specs.declared.fault.NamesFault.TheVariants as faults
use Rattle.ct_names.specs.NameBytes.{names_read, AreNames}
use Rattle.ct_names.specs.declared.list_fault.WatchedFault.{WatchedFault}
use Rattle.ct_names.specs.declared.list_fault.WatchedFault.TheVariants as fault
use Rattle.ct_names.specs.declared.name_bytes.EntryKind.{EntryKind}

-- the length of a watched name fits in 64 bits
abbrev pub IsShortName : List ℕ → Type 0
IsShortName name = length name < 2 ^ 64

-- the bytes are these watched names, one after the other, each a vector with a length of 8 bytes
pub record AreWatched (names : List (List ℕ)) (bytes : List ℕ) : Type 0 where
  pub fit : All IsShortName names
  pub text : bytes ≡ flat_map (vec 8) names

-- the bytes are these watched names, or they are not a list of names
abbrev pub IsListText : List ℕ → Option (List (List ℕ)) → Type 0
IsListText bytes (Some names) = AreWatched names bytes
IsListText bytes None = (names : List (List ℕ)) → AreWatched names bytes → ⊥

-- the number of the kind of names in which a watched name is found; include/wagtenib.h has the same
abbrev pub found_number : FoundIn → ℕ
found_number AltName = 1
found_number CommonName = 2

-- the bytes of the watched name at this position, if it is found: the position in 8 bytes, and the number of the kind in one byte
abbrev pub found_bytes : ℕ → Option FoundIn → List ℕ
found_bytes position None = []
found_bytes position (Some place) = num 8 position ++ found_number place ∷ []

-- the bytes of the watched names that are found among a certificate's names; the first of the watched names has this position
unfoldable pub found_from : ℕ → List Named → List (List ℕ) → List ℕ
found_from position ns [] = []
found_from position ns (w ∷ ws) = found_bytes position (found_in ns w) ++ found_from (position + 1) ns ws

-- the text is the bytes of the watched names that are found in the certificate or TBSCertificate b
abbrev pub IsFoundText : EntryKind → List ℕ → List ℕ → List ℕ → Type 0
IsFoundText e b watched text =
    (ws : List (List ℕ)) × (ns : List Named) × AreWatched ws watched × AreNames e ns b × (text ≡ found_from 0 ns ws)

-- the bytes are a list of watched names
abbrev pub IsWatchedList : List ℕ → Type 0
IsWatchedList bytes = (names : List (List ℕ)) × AreWatched names bytes

-- the list was read before this fault of the certificate was found; if memory could not be allocated, it may not have been read
abbrev pub ListIsReadBefore : NamesFault → List ℕ → Type 0
ListIsReadBefore (faults.At u) watched = IsWatchedList watched
ListIsReadBefore faults.Memory watched = Unit {0}

-- The reason why no watched name is looked for. BadList: the bytes are not a list of watched names. Unread: they are one, and the names of b
-- cannot be read; or memory could not be allocated. So if both are bad, the list's fault is told.
abbrev pub FailsWatched : WatchedFault → EntryKind → List ℕ → List ℕ → Type 0
FailsWatched fault.BadList e b watched = (ws : List (List ℕ)) → AreWatched ws watched → ⊥
FailsWatched (fault.Unread f) e b watched = Fails f (names_read e b) × ListIsReadBefore f watched

-- A watched name, without one dot at its end, is found by the labels of a certificate's names.
abbrev pub FindingIsByLabels : Type 0
FindingIsByLabels = (ns : List Named) (w : List ℕ) → IsFound (found_in ns w) ns (plain_of w)
