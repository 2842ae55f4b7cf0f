-- The heads and receipts that a guard lets through, and the reasons for which it refuses. H is any hash function on byte lists.
use Rattle.std.specs.Prelude.{◌≡◌, ◌⊎◌, ◌<◌, ◌≤◌, ◌^◌, ⊤, ℕ, List, [], Some, None}
use Rattle.std.specs.declared.option.Option.{Option}
use Rattle.ct_codec.specs.Leaf.{LeafText, SignedEntry, index_extension}
use Rattle.ct_codec.specs.Faults.{LeafFaulty}
use Rattle.ct_tree.specs.Tree.{hash_leaf}
use Rattle.ct_tree.specs.declared.head.Head.{Head}
use Rattle.ct_verify.specs.Verdict.{AcceptsInclusion, RefusesInclusion, AcceptsConsistency, RefusesConsistency}
use Rattle.ct_guard.specs.declared.refusal.HeadRefusal.{HeadRefusal}
use Rattle.ct_guard.specs.declared.refusal.HeadRefusal.TheVariants.{SizeFalls, MomentNotLater, Fork, Inconsistent}
use Rattle.ct_guard.specs.declared.refusal.ReceiptRefusal.{ReceiptRefusal}
use Rattle.ct_guard.specs.declared.refusal.ReceiptRefusal.TheVariants.{NoHead, NoLeaf, NotThere, LaterLeaf, OtherIndex}

-- The tree of the head continues that of the last one by the proof p: both have the same size and the same root; or the last one has no leaves, and
-- this one has some; or the consistency proof is accepted.
abbrev pub IsLater : (List ℕ → List ℕ) → Head → Head → List (List ℕ) → Type 0
IsLater H last head p =
    ((last.tree_size ≡ head.tree_size) × (head.root ≡ last.root)) ⊎ (((last.tree_size ≡ 0) × (0 < head.tree_size))
    ⊎ AcceptsConsistency H last.tree_size head.tree_size last.root head.root p)

-- The reason for which the tree of a head with as many leaves or more does not continue that of the last one. Fork: it has the same size and another
-- root. Inconsistent: it has more leaves, and the consistency proof is refused.
abbrev pub StopsLater : (List ℕ → List ℕ) → Head → Head → List (List ℕ) → HeadRefusal → Type 0
StopsLater H last head p SizeFalls = ⊥
StopsLater H last head p MomentNotLater = ⊥
StopsLater H last head p Fork = (head.tree_size ≡ last.tree_size) × (¬ (head.root ≡ last.root))
StopsLater H last head p (Inconsistent fault) =
    (0 < last.tree_size) × (last.tree_size < head.tree_size)
    × RefusesConsistency H last.tree_size head.tree_size last.root head.root p fault

-- A head is let through after the last one by the proof p: it is the first; or it is the last one again; or it is later, and its tree continues the
-- last one's.
abbrev pub PassesHead : (List ℕ → List ℕ) → Option Head → Head → List (List ℕ) → Type 0
PassesHead H None head p = ⊤
PassesHead H (Some last) head p = (head ≡ last) ⊎ ((last.timestamp < head.timestamp) × IsLater H last head p)

-- The reason for which a head is refused after the last one. SizeFalls: it is another one with fewer leaves. MomentNotLater: it has as many leaves or
-- more, and is not later. Fork, Inconsistent: it is later, and its tree does not continue the last one's.
abbrev pub StopsHead : (List ℕ → List ℕ) → Option Head → Head → List (List ℕ) → HeadRefusal → Type 0
StopsHead H None head p refusal = ⊥
StopsHead H (Some last) head p SizeFalls = head.tree_size < last.tree_size
StopsHead H (Some last) head p MomentNotLater =
    (¬ (head ≡ last)) × (last.tree_size ≤ head.tree_size) × (head.timestamp ≤ last.timestamp)
StopsHead H (Some last) head p Fork = (last.timestamp < head.timestamp) × StopsLater H last head p Fork
StopsHead H (Some last) head p (Inconsistent fault) = (last.timestamp < head.timestamp) × StopsLater H last head p (Inconsistent fault)

-- the bytes are those of a leaf
abbrev pub IsLeafBytes : List ℕ → Type 0
IsLeafBytes b = (t : ℕ) × (e : SignedEntry) × (x : List ℕ) × LeafText t e x b

-- The extensions of a leaf name no other index in its log than m: they are empty (RFC 6962), or contain only the index m (leaf_index, C2SP
-- static-ct-api).
abbrev pub IsOwnIndex : ℕ → List ℕ → Type 0
IsOwnIndex m x = (x ≡ []) ⊎ ((m < 2 ^ 40) × (x ≡ index_extension m))

-- the bytes are those of a leaf that is not later than the head, and that names no other index than m
abbrev pub IsLeafOf : Head → List ℕ → ℕ → Type 0
IsLeafOf last b m = (t : ℕ) × (e : SignedEntry) × (x : List ℕ) × LeafText t e x b × (t ≤ last.timestamp) × IsOwnIndex m x

-- A receipt over these bytes is let through: they are a leaf that is not later than the last head (RFC 6962, section 3.5) and names no other index
-- than m, and the path p leads from it at index m to that head's root.
abbrev pub PassesReceipt : (List ℕ → List ℕ) → Option Head → List ℕ → ℕ → List (List ℕ) → Type 0
PassesReceipt H None b m p = ⊥
PassesReceipt H (Some last) b m p = IsLeafOf last b m × AcceptsInclusion H (hash_leaf H b) m last.tree_size p last.root

-- The reason for which a receipt is refused. NoHead: there is no head yet. NoLeaf: the bytes are no leaf; this is the first fault. NotThere: they are a
-- leaf, and the path is refused. LaterLeaf: the path is accepted, and the leaf is later than the head. OtherIndex: the path is accepted, the leaf is not
-- later, and it has extensions that are not only the index.
abbrev pub StopsReceipt : (List ℕ → List ℕ) → Option Head → List ℕ → ℕ → List (List ℕ) → ReceiptRefusal → Type 0
StopsReceipt H None b m p NoHead = ⊤
StopsReceipt H None b m p (NoLeaf fault) = ⊥
StopsReceipt H None b m p (NotThere fault) = ⊥
StopsReceipt H None b m p LaterLeaf = ⊥
StopsReceipt H None b m p OtherIndex = ⊥
StopsReceipt H (Some last) b m p NoHead = ⊥
StopsReceipt H (Some last) b m p (NoLeaf fault) = LeafFaulty fault b
StopsReceipt H (Some last) b m p (NotThere fault) = IsLeafBytes b × RefusesInclusion H (hash_leaf H b) m last.tree_size p last.root fault
StopsReceipt H (Some last) b m p LaterLeaf =
    (t : ℕ) × (e : SignedEntry) × (x : List ℕ) × LeafText t e x b × (last.timestamp < t) × AcceptsInclusion H (hash_leaf H b) m last.tree_size p last.root
StopsReceipt H (Some last) b m p OtherIndex =
    (t : ℕ) × (e : SignedEntry) × (x : List ℕ) × LeafText t e x b × (t ≤ last.timestamp) × (¬ IsOwnIndex m x)
    × AcceptsInclusion H (hash_leaf H b) m last.tree_size p last.root
