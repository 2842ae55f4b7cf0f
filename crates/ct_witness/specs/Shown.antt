-- The leaves that clients can be shown under trees that witnesses cosigned. The laws need no list of leaves, because a dishonest log has
-- none. H is any hash function on byte lists with hashes of 32 bytes.
use Rattle.std.specs.Prelude.{◌≡◌, ◌⊎◌, ◌+◌, ◌<◌, ◌≤◌, ℕ, List, ◌++◌, length, flat_map, Contains}
use Rattle.ct_verify.specs.Hashed.{CollideAmong}
use Rattle.ct_verify.specs.Shown.{IsShown, shown_strings}
use Rattle.ct_witness.specs.declared.tree.Tree.{Tree}
use Rattle.ct_witness.specs.Runs.{Granted, IsWitness, IsCosigned, no_tree, granted_strings}
use Rattle.ct_witness.specs.Quorums.{AtLeast, AllBut}

-- Two leaves that are shown at the same index under two trees that one witness cosigned are the same leaf; or two of the hashed strings
-- collide.
abbrev pub WitnessedTreesShowOneLeaf : Type 0
WitnessedTreesShowOneLeaf =
    (H : List ℕ → List ℕ) → ((x : List ℕ) → length (H x) ≡ 32) → (steps : List Granted) → IsWitness H steps → (a b : Tree)
    → IsCosigned a steps → IsCosigned b steps → a.size ≤ b.size → (x y : List ℕ) (i : ℕ) (p q : List (List ℕ))
    → IsShown H x i a.size a.root p → IsShown H y i b.size b.root q
    → (x ≡ y) ⊎ CollideAmong H (Contains (granted_strings H (no_tree H) steps ++ shown_strings H x i a.size p ++ shown_strings H y i b.size q))

-- Among n witnesses, of which at most f are faulty, j cosigned the tree a and k cosigned the tree b, and n + f < j + k. Then two leaves
-- that are shown at the same index under these trees are the same leaf; or two of the strings collide that the witnesses or the two clients
-- hashed.
abbrev pub QuorumsShowOneLeaf : Type 0
QuorumsShowOneLeaf =
    (H : List ℕ → List ℕ) → ((x : List ℕ) → length (H x) ≡ 32) → (ws : List (List Granted)) (f j k : ℕ) → AllBut H f ws
    → length ws + f < j + k → (a b : Tree) → AtLeast (IsCosigned a) j ws → AtLeast (IsCosigned b) k ws → a.size ≤ b.size
    → (x y : List ℕ) (i : ℕ) (p q : List (List ℕ)) → IsShown H x i a.size a.root p → IsShown H y i b.size b.root q
    → (x ≡ y)
    ⊎ CollideAmong H (Contains (flat_map (granted_strings H (no_tree H)) ws ++ shown_strings H x i a.size p ++ shown_strings H y i b.size q))
