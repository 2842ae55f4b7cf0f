-- The view of a log's clients that hold heads, proofs between them, and audit paths. The laws need no list of leaves, because a dishonest
-- log has none. H is any hash function on byte lists with hashes of 32 bytes.
use Rattle.std.specs.Prelude.{◌≡◌, ◌⊎◌, ℕ, true, List, ◌∷◌, ◌++◌, length, Contains}
use Rattle.ct_tree.specs.Tree.{hash_leaf}
use Rattle.ct_verify.specs.Laws.{AreHashes}
use Rattle.ct_verify.specs.Verdict.{AcceptsInclusion, AcceptsConsistency}
use Rattle.ct_verify.specs.Hashed.{CollideAmong, path_strings, proof_strings}

-- a client was shown the leaf x at index i of a tree of n leaves with this root, by the audit path p (elements of 32 bytes)
abbrev pub IsShown : (List ℕ → List ℕ) → List ℕ → ℕ → ℕ → List ℕ → List (List ℕ) → Type 0
IsShown H x i n root p = AreHashes p × AcceptsInclusion H (hash_leaf H x) i n p root

-- the strings that such a client hashes: 00 || leaf, and those of the path
abbrev pub shown_strings : (List ℕ → List ℕ) → List ℕ → ℕ → ℕ → List (List ℕ) → List (List ℕ)
shown_strings H x i n p = (0 ∷ x) ∷ path_strings H i n (hash_leaf H x) p

-- Two leaves that are shown at the same index under one head are the same leaf; or two of the hashed strings collide.
abbrev pub OneHeadShowsOneLeaf : Type 0
OneHeadShowsOneLeaf =
    (H : List ℕ → List ℕ) → ((x : List ℕ) → length (H x) ≡ 32) → (x y : List ℕ) (i n : ℕ) (root : List ℕ) (p q : List (List ℕ))
    → IsShown H x i n root p → IsShown H y i n root q
    → (x ≡ y) ⊎ CollideAmong H (Contains (shown_strings H x i n p ++ shown_strings H y i n q))

-- If a consistency proof leads from one head to another, two leaves that are shown at the same index under the two heads are the same leaf;
-- or two of the hashed strings collide.
abbrev pub ConsistentHeadsShowOneLeaf : Type 0
ConsistentHeadsShowOneLeaf =
    (H : List ℕ → List ℕ) → ((x : List ℕ) → length (H x) ≡ 32) → (m n : ℕ) (a b : List ℕ) (proof : List (List ℕ)) → AreHashes proof
    → AcceptsConsistency H m n a b proof → (x y : List ℕ) (i : ℕ) (p q : List (List ℕ)) → IsShown H x i m a p → IsShown H y i n b q
    → (x ≡ y) ⊎ CollideAmong H (Contains (proof_strings H m n true a proof ++ shown_strings H x i m p ++ shown_strings H y i n q))
