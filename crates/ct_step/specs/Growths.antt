-- The relation of one step of a log to its leaves. H is any hash function on byte lists, and D the list of the log's leaves.
use Rattle.std.specs.Prelude.{◌≡◌, ℕ, ◌+◌, ◌<◌, ◌≤◌, ◌^◌, List, ◌++◌, length, map}
use Rattle.ct_codec.specs.Leaf.{SignedEntry}
use Rattle.ct_codec.specs.declared.refusal.Refusal.TheVariants as refused
use Rattle.ct_tree.specs.Tree.{hash_leaf, mth_of_leaves}
use Rattle.ct_tiles.specs.Tiles.{rows}
use Rattle.ct_tiles.specs.Edge.{IsEdge}
use Rattle.ct_step.specs.Leaves.{indexed_leaves, receipts_from, receipt_parts}
use Rattle.ct_step.specs.declared.growth.Growth.{Growth}
use Rattle.ct_step.specs.declared.growth.GrowthFault.{GrowthFault}
use Rattle.ct_step.specs.declared.growth.GrowthFault.TheVariants.{ClockBack, Full, Refused}
use Rattle.ct_step.specs.declared.growth.State.{State}

-- the state is that of a log with the leaves D: its edge is that of their tiles
abbrev pub IsState : (List ℕ → List ℕ) → State → List (List ℕ) → Type 0
IsState H state D = IsEdge H state.edge (map (hash_leaf H) D)

-- `count` submissions may be added at the timestamp `now`: it is later than the state's (RFC 6962, section 3.5), and a leaf's index has 40
-- bits
abbrev pub MayGrow : State → ℕ → ℕ → Type 0
MayGrow state count now = (state.timestamp < now) × (state.edge.0 + count ≤ 2 ^ 40)

-- The reason why `count` submissions are not added at the timestamp `now`:
-- - `ClockBack`: the timestamp is not later than the state's.
-- - `Full`: it is later, and the log would have more than 2^40 leaves.
-- - `Refused`: the submissions may be added, and memory could not be allocated.
abbrev pub StopsGrowth : State → ℕ → ℕ → GrowthFault → Type 0
StopsGrowth state count now ClockBack = now ≤ state.timestamp
StopsGrowth state count now Full = (state.timestamp < now) × (2 ^ 40 < state.edge.0 + count)
StopsGrowth state count now (Refused refusal) = MayGrow state count now × (refusal ≡ refused.Memory)

-- A step from a state, whatever leaves the log has:
-- - The first new leaf's index is the state's size (`first`).
-- - Each entry has its receipt, in order, from that index on (`receipts`).
-- - The head has this number of leaves more (`size`) and this timestamp (`timestamp`), which is that of the next state (`moment`).
pub record IsGrownFrom (state : State) (entries : List SignedEntry) (now : ℕ) (g : Growth) : Type 0 where
  pub first : g.first ≡ state.edge.0
  pub receipts : map receipt_parts g.receipts.items ≡ receipts_from now state.edge.0 entries
  pub size : g.head.tree_size ≡ state.edge.0 + length entries
  pub timestamp : g.head.timestamp ≡ now
  pub moment : g.state.timestamp ≡ now

-- A step added these entries to the log with the leaves D at the timestamp `now`:
-- - The first new leaf's index is the number of leaves (`first`).
-- - Each entry has its receipt, in order, from that index on (`receipts`).
-- - The tiles that are new or change are written (`rows`).
-- - The head is that of all leaves (`size`, `root`) and has this timestamp (`timestamp`).
-- - The next state is that of all leaves (`state`), and has this timestamp, too (`moment`).
pub record IsGrowth (H : List ℕ → List ℕ) (D : List (List ℕ)) (entries : List SignedEntry) (now : ℕ) (g : Growth) : Type 0 where
  pub first : g.first ≡ length D
  pub receipts : map receipt_parts g.receipts.items ≡ receipts_from now (length D) entries
  pub rows : map (λ r. (r.first, r.hashes.items)) g.rows.items
      ≡ rows H 256 8 (map (hash_leaf H) D) (map (hash_leaf H) (indexed_leaves now (length D) entries))
  pub size : g.head.tree_size ≡ length (D ++ indexed_leaves now (length D) entries)
  pub root : g.head.root ≡ mth_of_leaves H (D ++ indexed_leaves now (length D) entries)
  pub timestamp : g.head.timestamp ≡ now
  pub state : IsState H g.state (D ++ indexed_leaves now (length D) entries)
  pub moment : g.state.timestamp ≡ now
