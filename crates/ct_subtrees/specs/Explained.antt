-- The evidence for a subtree's consistency proof, over the list D of leaf hashes. H is any hash function on byte lists, and k is the largest
-- power of two smaller than the length of D.
use Rattle.std.specs.Prelude.{◌≡◌, ℕ, ◌-◌, ◌<◌, ◌≤◌, Bool, true, false, List, ◌∷◌, ◌++◌, length, take, drop, Option, Some, None, Contains}
use Rattle.ct_tree.specs.Tree.{split, mth}
use Rattle.ct_verify.specs.Evidence.{Collides}
use Rattle.ct_verify.specs.declared.evidence.Evidence.{Evidence}
use Rattle.ct_verify.specs.declared.evidence.Evidence.TheVariants.{Holds, Collision}
use Rattle.ct_subtrees.specs.Hashed.{subtree_strings}
use Rattle.ct_subtrees.specs.Subtrees.{subtree_hash, subtree_subproof, subtree_proof}
use Rattle.ct_subtrees.specs.Verdict.{AcceptsSubtree, RefusesSubtree}
use Rattle.ct_subtrees.specs.declared.explained.SubtreeEvidenceFault.{SubtreeEvidenceFault}
use Rattle.ct_subtrees.specs.declared.explained.SubtreeEvidenceFault.TheVariants.{ProofRefused, Memory}
use Rattle.ct_subtrees.specs.declared.explained.Node.{Node}
use Rattle.ct_subtrees.specs.declared.explained.Difference.{Difference}

-- the string of an inner node: 01 || left || right
abbrev pub node_string : Node → List ℕ
node_string n = 1 ∷ n.left ++ n.right

-- the strings that are hashed when the root of the leaf hashes D is computed (RFC 6962, section 2.1): 01 || left || right of each node
pub data IsJoinedIn (H : List ℕ → List ℕ) : List (List ℕ) → List ℕ → Type 0 where
  root : (D : List (List ℕ)) (k : ℕ) → 1 < length D → k ≡ split (length D) → IsJoinedIn H D (1 ∷ mth H (take k D) ++ mth H (drop k D))
  in_left : (D : List (List ℕ)) (k : ℕ) (s : List ℕ) → 1 < length D → k ≡ split (length D) → IsJoinedIn H (take k D) s → IsJoinedIn H D s
  in_right : (D : List (List ℕ)) (k : ℕ) (s : List ℕ) → 1 < length D → k ≡ split (length D) → IsJoinedIn H (drop k D) s → IsJoinedIn H D s

-- x is the hash of the subtree [s, e) of D, and p is its SUBTREE_SUBPROOF
abbrev pub IsSubproofOf : (List ℕ → List ℕ) → ℕ → ℕ → Bool → List ℕ → List (List ℕ) → List (List ℕ) → Type 0
IsSubproofOf H s e b x D p = (x ≡ subtree_hash H s e D) × (p ≡ subtree_subproof H s e D b)

-- the first string is hashed when the proof is checked, and the second one in the tree of D. They differ and have the same hash
abbrev pub AreCollision : (List ℕ → List ℕ) → ℕ → ℕ → Bool → List ℕ → List (List ℕ) → List (List ℕ) → List ℕ → List ℕ → Type 0
AreCollision H s e b r D p one other = Contains (subtree_strings H s e (length D) b r p) one × IsJoinedIn H D other × Collides H one other

-- the result of the search from the root down. None: x is the hash of the subtree, and p is its SUBTREE_SUBPROOF. Otherwise: the strings of
-- these two nodes are a collision
abbrev pub SearchResult : (List ℕ → List ℕ) → ℕ → ℕ → Bool → List ℕ → List ℕ → List (List ℕ) → List (List ℕ) → Option Difference → Type 0
SearchResult H s e b r x D p None = IsSubproofOf H s e b x D p
SearchResult H s e b r x D p (Some d) = AreCollision H s e b r D p (node_string d.proved) (node_string d.listed)

-- the part of a tree of n leaves, split at k, that has the end of the subtree: its start and end there, the size of the part, whether the
-- hash of the subtree is known there, and whether it is the left part
pub data IsHalf (s e n k : ℕ) (b : Bool) : ℕ → ℕ → ℕ → Bool → Bool → Type 0 where
  left : e ≤ k → IsHalf s e n k b s e k b true
  right : k ≤ s → IsHalf s e n k b (s - k) (e - k) (n - k) b false
  both : s < k → k < e → IsHalf s e n k b 0 (e - k) (n - k) false false

-- Holds: accepted under MTH of the list, x is the hash of the subtree, and p is its SUBTREE_PROOF. Collision: accepted, and these two
-- strings differ and have the same hash. The first one is hashed when the proof is checked, and the second one in the tree of the list
abbrev pub SubtreeEvidence : {A : Type 0} → (List ℕ → List ℕ) → ℕ → ℕ → List ℕ → List (List ℕ) → List (List ℕ) → Evidence A → Type 0
SubtreeEvidence H s e x D p Holds =
    AcceptsSubtree H s e (length D) x (mth H D) p × (x ≡ subtree_hash H s e D) × (p ≡ subtree_proof H s e D)
SubtreeEvidence H s e x D p (Collision a b) = AcceptsSubtree H s e (length D) x (mth H D) p × AreCollision H s e true x D p a.items b.items

-- ProofRefused: the verifier's own refusal. Memory: accepted, and two of those strings are a collision
abbrev pub SubtreeRefusal : (List ℕ → List ℕ) → ℕ → ℕ → List ℕ → List (List ℕ) → List (List ℕ) → SubtreeEvidenceFault → Type 0
SubtreeRefusal H s e x D p (ProofRefused v) = RefusesSubtree H s e (length D) x (mth H D) p v
SubtreeRefusal H s e x D p Memory =
    AcceptsSubtree H s e (length D) x (mth H D) p × ((one other : List ℕ) × AreCollision H s e true x D p one other)
