-- The bytes of a monitor's state, in the presentation language of RFC 5246 (section 4). H is any hash function on byte lists. The library's
-- is SHA-256.
use Rattle.std.specs.Prelude.{◌≡◌, ◌⊎◌, ◌<◌, ◌^◌, ◌++◌, ◌∷◌, [], ⊤, ℕ, List, length, Option, Some, None}
use Rattle.ct_codec.specs.Bytes.{num, vec}
use Rattle.ct_codec.specs.Parts.{joined}
use Rattle.ct_monitor.specs.WatcherState.{WatcherState}
use Rattle.ct_monitor.specs.declared.newest.Newest.{Newest}
use Rattle.ct_tree.specs.declared.head.Head.{Head}
use Rattle.ct_verify.specs.Laws.{AreHashes}
use Rattle.ct_monitor.specs.Fitting.{FitsTogether}

-- a tree head: its size, its timestamp in milliseconds, and its root
abbrev pub fields_text : Head → List ℕ
fields_text head = num 8 head.tree_size ++ (num 8 head.timestamp ++ head.root)

-- a tree head that may be missing: the byte 0, or the byte 1 and the head
abbrev pub head_text : Option Head → List ℕ
head_text None = 0 ∷ []
head_text (Some head) = 1 ∷ fields_text head

-- a number of leaves, and the roots of their perfect subtrees as a vector whose length in bytes has 8 bytes
abbrev pub subtrees_text : ℕ × List (List ℕ) → List ℕ
subtrees_text p = num 8 p.0 ++ vec 8 (joined p.1)

-- the version 2, the accepted and the waiting head with their earliest timestamps, and their newest timestamps
abbrev pub heads_text : Option Head → Option Head → Newest → List ℕ
heads_text accepted waiting newest = 2 ∷ (head_text accepted ++ (head_text waiting ++ (num 8 newest.accepted ++ num 8 newest.waiting)))

-- the parts of a state: its heads, the accepted leaves, and all leaves that were read
abbrev pub parts_text : WatcherState → List ℕ
parts_text s = heads_text s.accepted s.waiting s.newest ++ (subtrees_text s.sure ++ subtrees_text s.all)

-- the parts, and after them their hash
abbrev pub monitor_state_text : (List ℕ → List ℕ) → WatcherState → List ℕ
monitor_state_text H s = parts_text s ++ H (parts_text s)

-- the version 1 had no newest timestamps
abbrev pub first_heads_text : Option Head → Option Head → List ℕ
first_heads_text accepted waiting = 1 ∷ (head_text accepted ++ head_text waiting)

-- the timestamp of a head, or 0 if there is none
abbrev pub timestamp_or_0 : Option Head → ℕ
timestamp_or_0 None = 0
timestamp_or_0 (Some head) = head.timestamp

-- the newest timestamps of heads that were handed out once
abbrev pub seen_once : Option Head → Option Head → Newest
seen_once accepted waiting = record { accepted = timestamp_or_0 accepted; waiting = timestamp_or_0 waiting }

-- the bytes are these heads in the version 2, or in the version 1; in the version 1 each head counts as handed out once
abbrev pub IsHeadsText : Option Head → Option Head → Newest → List ℕ → Type 0
IsHeadsText accepted waiting newest text = (text ≡ heads_text accepted waiting newest)
    ⊎ ((text ≡ first_heads_text accepted waiting) × (newest ≡ seen_once accepted waiting))

-- the bytes are the parts of a state
abbrev pub IsPartsText : WatcherState → List ℕ → Type 0
IsPartsText s parts =
    (heads : List ℕ) × IsHeadsText s.accepted s.waiting s.newest heads × (parts ≡ heads ++ (subtrees_text s.sure ++ subtrees_text s.all))

-- a head whose numbers have 64 bits and whose root has 32 bytes
pub record IsHeadInBytes (head : Head) : Type 0 where
  pub tree_size : head.tree_size < 2 ^ 64
  pub timestamp : head.timestamp < 2 ^ 64
  pub root : length head.root ≡ 32

-- such a head, or no head
abbrev pub IsNoneOrInBytes : Option Head → Type 0
IsNoneOrInBytes None = ⊤
IsNoneOrInBytes (Some head) = IsHeadInBytes head

-- timestamps of 64 bits
pub record AreNewestInBytes (newest : Newest) : Type 0 where
  pub accepted : newest.accepted < 2 ^ 64
  pub waiting : newest.waiting < 2 ^ 64

-- a number of leaves that fits in 64 bits, and roots of 32 bytes, no more of them than memory can hold
pub record AreSubtreesInBytes (p : ℕ × List (List ℕ)) : Type 0 where
  pub leaves : p.0 < 2 ^ 64
  pub roots : AreHashes p.1
  pub size : length (joined p.1) < 2 ^ 64

-- a state that the code can have
pub record IsInBytes (s : WatcherState) : Type 0 where
  pub accepted : IsNoneOrInBytes s.accepted
  pub waiting : IsNoneOrInBytes s.waiting
  pub newest : AreNewestInBytes s.newest
  pub sure : AreSubtreesInBytes s.sure
  pub all : AreSubtreesInBytes s.all

-- the bytes encode the state s, whose parts fit: its parts in either version, and after them their hash
pub record IsMonitorState (H : List ℕ → List ℕ) (s : WatcherState) (bytes : List ℕ) : Type 0 where
  pub numbers : IsInBytes s
  pub fits : FitsTogether H s
  pub text : (parts : List ℕ) × IsPartsText s parts × (bytes ≡ parts ++ H parts)

-- the bytes are not a state
abbrev pub IsNoState : (List ℕ → List ℕ) → List ℕ → Type 0
IsNoState H bytes = (s : WatcherState) → IsMonitorState H s bytes → ⊥
