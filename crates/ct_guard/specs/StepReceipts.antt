-- When the receipts of a step are let through. The leaves of the step are the last ones of the last head's tree. H
-- is any hash function on byte lists. There are m leaves before the step. The hashes q are taken for the
-- roots of their perfect subtrees, largest first. E has the leaves of the step. k is the largest power of two below the
-- number of all leaves.
use Rattle.std.specs.Prelude.{◌≡◌, ◌⊎◌, ◌+◌, ◌-◌, ◌<◌, ◌≤◌, ⊤, ℕ, zero, suc, nat_lt, if◌then◌else◌, List, [], ◌∷◌}
use Rattle.std.specs.Prelude.{◌++◌, length, take, drop, None, Some}
use Rattle.std.specs.declared.option.Option.{Option}
use Rattle.ct_codec.specs.Leaf.{LeafText, SignedEntry}
use Rattle.ct_codec.specs.Faults.{LeafFaulty}
use Rattle.ct_tree.specs.Tree.{split, hash_node, mth_of_leaves}
use Rattle.ct_tree.specs.declared.head.Head.{Head}
use Rattle.ct_monitor.specs.Heads.{IsHeadOfAll}
use Rattle.ct_verify.specs.Hashed.{CollideAmong, IsHashedIn}
use Rattle.ct_verify.specs.Laws.{AreHashes}
use Rattle.ct_verify.specs.declared.fault.ProofFault.TheVariants.{IndexOutOfRange, RootMismatch}
use Rattle.ct_guard.specs.Guarded.{IsLeafOf, IsOwnIndex}
use Rattle.ct_guard.specs.declared.refusal.ReceiptRefusal.{ReceiptRefusal}
use Rattle.ct_guard.specs.declared.refusal.ReceiptRefusal.TheVariants.{NoHead, NoLeaf, NotThere, LaterLeaf, OtherIndex}

-- the hash of the node over these two hashes, if both are there
abbrev pub node_of : (List ℕ → List ℕ) → Option (List ℕ) → Option (List ℕ) → Option (List ℕ)
node_of H None right = None
node_of H (Some left) None = None
node_of H (Some left) (Some right) = Some (hash_node H left right)

-- a function of the first of these hashes and the others, if there is a first one
abbrev pub with_first : List (List ℕ) → (List ℕ → List (List ℕ) → Option (List ℕ)) → Option (List ℕ)
with_first [] given = None
with_first (x ∷ q) given = given x q

-- MTH(E), if no subtrees are before these leaves
abbrev pub whole_root : (List ℕ → List ℕ) → List (List ℕ) → List (List ℕ) → Option (List ℕ)
whole_root H [] E = Some (mth_of_leaves H E)
whole_root H (x ∷ q) E = None

-- the root of the m leaves and E, by recursion that counts down a bound
unfoldable pub root_within : (List ℕ → List ℕ) → ℕ → ℕ → List (List ℕ) → List (List ℕ) → Option (List ℕ)
root_within H zero m q E = whole_root H q E
root_within H (suc depth) m q E =
    let k = split (m + length E) in
    if nat_lt 0 m
    then (if nat_lt m k
    then node_of H (root_within H depth m q (take (k - m) E)) (Some (mth_of_leaves H (drop (k - m) E)))
    else with_first q (λ x rest. node_of H (Some x) (root_within H depth (m - k) rest E)))
    else whole_root H q E

-- The root of the tree of m leaves and the leaves E after them, by the recursion of RFC 6962, section 2.1, in
-- which the hashes q are taken for the roots of the perfect subtrees of the m leaves. It is none if q has more or
-- fewer hashes than m leaves have subtrees. E has at least one leaf.
unfoldable pub root_after : (List ℕ → List ℕ) → ℕ → List (List ℕ) → List (List ℕ) → Option (List ℕ)
root_after H m q E = root_within H (m + length E) m q E

-- E has at least one leaf, and its leaves are as many as the head's tree has from the index m on
abbrev pub EndsWithTree : Head → ℕ → List (List ℕ) → Type 0
EndsWithTree last m E = (0 < length E) × (m + length E ≡ last.tree_size)

-- each of E, whose first element has the index m, is a leaf that is not later than the head and names no other index
unfoldable pub AreLeavesOf : Head → ℕ → List (List ℕ) → Type 0
AreLeavesOf last m [] = ⊤
AreLeavesOf last m (b ∷ E) = IsLeafOf last b m × AreLeavesOf last (m + 1) E

-- why the leaf b at index m is refused, though the tree has it there. NoLeaf: the bytes are no leaf, with the
-- first fault. LaterLeaf: the leaf is later than the head. OtherIndex: it is not later, and names another index
abbrev pub StopsLeaf : Head → List ℕ → ℕ → ReceiptRefusal → Type 0
StopsLeaf last b m NoHead = ⊥
StopsLeaf last b m (NoLeaf fault) = LeafFaulty fault b
StopsLeaf last b m (NotThere fault) = ⊥
StopsLeaf last b m LaterLeaf = (t : ℕ) × (e : SignedEntry) × (x : List ℕ) × LeafText t e x b × (last.timestamp < t)
StopsLeaf last b m OtherIndex =
    (t : ℕ) × (e : SignedEntry) × (x : List ℕ) × LeafText t e x b × (t ≤ last.timestamp) × (¬ IsOwnIndex m x)

-- this is the reason of the first of the leaves E that is refused
unfoldable pub StopsLeaves : Head → ℕ → List (List ℕ) → ReceiptRefusal → Type 0
StopsLeaves last m [] refusal = ⊥
StopsLeaves last m (b ∷ E) refusal = StopsLeaf last b m refusal
    ⊎ (IsLeafOf last b m × StopsLeaves last (m + 1) E refusal)

-- The receipts of all leaves of a step are let through: the leaves end where the last head's tree ends; the hashes
-- q and the leaves give that head's root; and each of E is a leaf that is not later than that head (RFC 6962,
-- section 3.5) and names no other index.
abbrev pub PassesReceipts : (List ℕ → List ℕ) → Option Head → ℕ → List (List ℕ) → List (List ℕ) → Type 0
PassesReceipts H None m q E = ⊥
PassesReceipts H (Some last) m q E = EndsWithTree last m E × (root_after H m q E ≡ Some last.root) × AreLeavesOf last m E

-- Why the receipts of a step are refused. NoHead: there is no head yet. IndexOutOfRange: there are no leaves, or
-- they end elsewhere. RootMismatch: the hashes q and the leaves give another root, or none. Otherwise they give
-- the head's root, and this is the reason of the first leaf that is refused.
abbrev pub StopsReceipts : (List ℕ → List ℕ) → Option Head → ℕ → List (List ℕ) → List (List ℕ) → ReceiptRefusal → Type 0
StopsReceipts H None m q E refusal = refusal ≡ NoHead
StopsReceipts H (Some last) m q E refusal =
    ((refusal ≡ NotThere IndexOutOfRange) × (¬ EndsWithTree last m E))
    ⊎ ((refusal ≡ NotThere RootMismatch) × EndsWithTree last m E × (¬ (root_after H m q E ≡ Some last.root)))
    ⊎ (EndsWithTree last m E × (root_after H m q E ≡ Some last.root) × StopsLeaves last m E refusal)

-- The strings that are hashed when `root_after` is computed: 00 || leaf of each leaf of E, and 01 || left || right
-- of each node that is not given by a hash of q.
pub data IsHashedAfter (H : List ℕ → List ℕ) : ℕ → List (List ℕ) → List (List ℕ) → List ℕ → Type 0 where
  whole : (E : List (List ℕ)) (s : List ℕ) → IsHashedIn H E s → IsHashedAfter H 0 [] E s
  left_node : (m : ℕ) (q E : List (List ℕ)) (k : ℕ) (r : List ℕ) → 0 < m → m < k → k ≡ split (m + length E)
      → root_after H m q (take (k - m) E) ≡ Some r
      → IsHashedAfter H m q E (1 ∷ r ++ mth_of_leaves H (drop (k - m) E))
  in_left : (m : ℕ) (q E : List (List ℕ)) (k : ℕ) (s : List ℕ) → 0 < m → m < k → k ≡ split (m + length E)
      → IsHashedAfter H m q (take (k - m) E) s
      → IsHashedAfter H m q E s
  in_right : (m : ℕ) (q E : List (List ℕ)) (k : ℕ) (s : List ℕ) → 0 < m → m < k → k ≡ split (m + length E)
      → IsHashedIn H (drop (k - m) E) s → IsHashedAfter H m q E s
  right_node : (m : ℕ) (x : List ℕ) (q E : List (List ℕ)) (k : ℕ) (r : List ℕ) → k ≤ m → k ≡ split (m + length E)
      → root_after H (m - k) q E ≡ Some r
      → IsHashedAfter H m (x ∷ q) E (1 ∷ x ++ r)
  after_left : (m : ℕ) (x : List ℕ) (q E : List (List ℕ)) (k : ℕ) (s : List ℕ) → k ≤ m → k ≡ split (m + length E)
      → IsHashedAfter H (m - k) q E s
      → IsHashedAfter H m (x ∷ q) E s

-- the strings that are hashed when the receipts of a step are let through, and those in the tree of the leaves D
abbrev pub IsHashedForStep : (List ℕ → List ℕ) → List (List ℕ) → ℕ → List (List ℕ) → List (List ℕ) → List ℕ → Type 0
IsHashedForStep H D m q E s = IsHashedAfter H m q E s ⊎ IsHashedIn H D s

-- If the last head is that of the list D, the leaves of a step whose receipts are let through are the leaves of D
-- from the index m on, or two of the strings that are hashed collide. The hashes q have 32 bytes each.
abbrev pub StepReceiptsStand : Type 0
StepReceiptsStand =
    (H : List ℕ → List ℕ) → ((x : List ℕ) → length (H x) ≡ 32)
    → (last : Head) (D : List (List ℕ)) (m : ℕ) (q E : List (List ℕ))
    → IsHeadOfAll H D last → AreHashes q → PassesReceipts H (Some last) m q E
    → (E ≡ drop m D) ⊎ CollideAmong H (IsHashedForStep H D m q E)
