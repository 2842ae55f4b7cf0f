-- The sequencing core as plain data, its clock, and its steps.
use Rattle.std.specs.Prelude.{◌≡◌, ℕ, ◌+◌, ◌-◌, ◌<◌, ◌≤◌, max, List, [], ◌∷◌, ◌++◌, length, map, slice_index, nat_lt, ◌||◌, if◌then◌else◌, All}
use Rattle.std.specs.List.Sorted.{IsNonDecreasingBy}
use Rattle.ct_codec.specs.declared.item.Item.{Item}
use Rattle.ct_codec.specs.declared.refusal.Refusal.{Refusal}
use Rattle.ct_codec.specs.declared.refusal.Refusal.TheVariants.{Memory, ClockBack}
use Rattle.ct_core.specs.declared.settled.Settled.{Settled}
use Rattle.ct_core.specs.Leaf.{Entry, HasTexts, leaves_of}
use Rattle.ct_tree.specs.declared.head.Head.{Head}
use Rattle.ct_core.specs.Tree.{MTH}
use Rattle.ct_core.specs.Settlement.{Log, Lawful, SettlesAs, firsts_after}

-- the published state, and all entries and records so far
pub record CoreState : Type 0 where
  pub published : Log
  pub entries : List Entry
  pub settlement : List Settled

-- the core has settled these items, in this order
abbrev pub IsSettled : CoreState → List Item → Type 0
IsSettled core items = SettlesAs items core.entries core.settlement

-- the list xs is a prefix of the list ys
abbrev pub Begins : {X : Type 0} → List X → List X → Type 0
Begins {X} xs ys = (rest : List X) × (ys ≡ xs ++ rest)

-- the entries, settlement and heads of the older published state are prefixes of those of the newer one
pub record Extends (older newer : Log) : Type 0 where
  pub entries : Begins older.entries newer.entries
  pub settlement : Begins older.settlement newer.settlement
  pub heads : Begins older.heads newer.heads

-- The invariant of every core. Its published state is lawful, and some items are settled in it. The published entries and records are
-- prefixes of all entries and records. Each entry has its texts, and timestamps of entries never fall.
pub record IsCore (core : CoreState) : Type 0 where
  pub lawful : Lawful core.published
  pub settled : (items : List Item) × IsSettled core items
  pub entries : Begins core.published.entries core.entries
  pub settlement : Begins core.published.settlement core.settlement
  pub texts : All HasTexts core.entries
  pub never_fall : IsNonDecreasingBy (λ (e : Entry). e.timestamp) core.entries

-- the newest leaf's timestamp, or 0 if there is no leaf
abbrev pub newest_leaf : List Entry → ℕ
newest_leaf entries = slice_index (map (λ (e : Entry). e.timestamp) entries) (length entries - 1)

-- the last head's timestamp
abbrev pub last_moment : List Head → ℕ
last_moment heads = slice_index (map (λ (h : Head). h.timestamp) heads) (length heads - 1)

-- the greater of the last head's timestamp and the newest leaf's
abbrev pub clock_of : CoreState → ℕ
clock_of core = max (last_moment core.published.heads) (newest_leaf core.entries)

-- the refusal of a settling at now: `ClockBack` if now is before the clock, otherwise `Memory`
abbrev pub settle_refusal : CoreState → ℕ → Refusal
settle_refusal core now = (if nat_lt now (clock_of core) then ClockBack else Memory)

-- a publication at now is in time: now is not before the newest leaf's timestamp, and is after the last head's (RFC 6962, section 3.5)
pub record IsInTime (core : CoreState) (now : ℕ) : Type 0 where
  pub leaves : newest_leaf core.entries ≤ now
  pub heads : last_moment core.published.heads < now

-- the refusal of a publication at now: `ClockBack` if now is before the newest leaf's timestamp, or is not after the last head's; otherwise
-- `Memory` (RFC 6962, section 3.5)
abbrev pub publish_refusal : CoreState → ℕ → Refusal
publish_refusal core now = (if nat_lt now (newest_leaf core.entries) || nat_lt now (last_moment core.published.heads + 1) then ClockBack else Memory)

-- the head of a new log: size 0, and the timestamp at which it was opened
abbrev pub first_head : ℕ → Head
first_head now = record { tree_size = 0; timestamp = now; root = MTH [] }

-- the state of a new log: one head of size 0 with the timestamp now, and nothing else
abbrev pub new_core : ℕ → CoreState
new_core now = record { published = record { entries = []; settlement = []; heads = first_head now ∷ [] }; entries = []; settlement = [] }

-- an item's entry, settled at now
abbrev pub entry_at : ℕ → Item → Entry
entry_at now x = record { submission = x.submission; timestamp = now }

-- After `items`, the items xs were settled at now. The new settlement is that of both and begins with the old one. The new entries, with
-- timestamp now, are exactly one for each first occurrence among xs. The published state is unchanged.
pub record Grows (old : CoreState) (items xs : List Item) (now : ℕ) (new : CoreState) : Type 0 where
  pub settled : IsSettled new (items ++ xs)
  pub entries : new.entries ≡ old.entries ++ map (entry_at now) (firsts_after items xs)
  pub settlement : Begins old.settlement new.settlement
  pub published : new.published ≡ old.published

-- h is the head that a publication at now makes over all entries so far: its size is their number, its root is MTH of their leaves, and its
-- timestamp is now (RFC 6962, section 3.5)
pub record IsNextHead (core : CoreState) (now : ℕ) (h : Head) : Type 0 where
  pub size : h.tree_size ≡ length core.entries
  pub moment : h.timestamp ≡ now
  pub root : h.root ≡ MTH (leaves_of core.entries)

-- the published state with all entries and records, and one more head (RFC 6962, section 3.5)
abbrev pub published_with : CoreState → Head → Log
published_with core h = record { entries = core.entries; settlement = core.settlement; heads = core.published.heads ++ h ∷ [] }

-- the state that a publication at now makes
abbrev pub IsNextState : CoreState → ℕ → Log → Type 0
IsNextState core now p = (h : Head) × IsNextHead core now h × (p ≡ published_with core h)

-- the core after that publication
abbrev pub after_publishing : CoreState → Head → CoreState
after_publishing core h = record { published = published_with core h; entries = core.entries; settlement = core.settlement }

-- all entries and records are published
abbrev pub IsCovered : CoreState → Type 0
IsCovered core = (core.published.entries ≡ core.entries) × (core.published.settlement ≡ core.settlement)
