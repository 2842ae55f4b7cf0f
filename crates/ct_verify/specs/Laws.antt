-- The laws of the verifiers' definitions. H is any hash function on byte lists, k the largest power of two smaller than n, and q : s is the
-- path q ++ s ∷ []. The laws state
-- - the equations of `rebuild` and `both_roots`, and when these two are defined,
-- - that every proof of RFC 6962 is accepted,
-- - that no accepted proof is refused,
-- - and that no proof is refused in two ways.
use Rattle.std.specs.Prelude.{◌≡◌, ℕ, ◌-◌, ◌<◌, ◌≤◌, ◌↔◌, Bool, true, false, List, [], ◌∷◌, ◌++◌, length, take, get_or, Some, None, IsSome, All}
use Rattle.std.specs.Option.{option_map}
use Rattle.ct_tree.specs.Tree.{split, hash_leaf, hash_node, mth, mth_of_leaves, path, proof}
use Rattle.ct_tree.specs.Lengths.{path_length, subproof_length}
use Rattle.ct_verify.specs.Rebuild.{rebuild, both_roots}
use Rattle.ct_verify.specs.Evidence.{evid, IsAudited}
use Rattle.ct_verify.specs.Verdict.{AcceptsInclusion, RefusesInclusion, AcceptsConsistency, RefusesConsistency}
use Rattle.ct_verify.specs.declared.fault.ProofFault.{ProofFault}

-- the root of one leaf is its hash
abbrev pub RebuildOfOne : Type 0
RebuildOfOne = (H : List ℕ → List ℕ) (m : ℕ) (h : List ℕ) → rebuild H m 1 h [] ≡ Some h

-- for n > 1 and m < k rebuild(m, n, h, q : s) = H(01 || rebuild(m, k, h, q) || s)
abbrev pub RebuildInLeft : Type 0
RebuildInLeft =
    (H : List ℕ → List ℕ) (m n k : ℕ) (h s : List ℕ) (q : List (List ℕ)) → 1 < n → k ≡ split n → m < k
    → rebuild H m n h (q ++ s ∷ []) ≡ option_map (λ r. hash_node H r s) (rebuild H m k h q)

-- for n > 1 and m >= k rebuild(m, n, h, q : s) = H(01 || s || rebuild(m - k, n - k, h, q))
abbrev pub RebuildInRight : Type 0
RebuildInRight =
    (H : List ℕ → List ℕ) (m n k : ℕ) (h s : List ℕ) (q : List (List ℕ)) → 1 < n → k ≡ split n → k ≤ m
    → rebuild H m n h (q ++ s ∷ []) ≡ option_map (λ r. hash_node H s r) (rebuild H (m - k) (n - k) h q)

-- for m < n a root is rebuilt exactly from a path as long as PATH(m, D[n])
abbrev pub RebuildDefined : Type 0
RebuildDefined =
    (H : List ℕ → List ℕ) (m n : ℕ) (h : List ℕ) (p : List (List ℕ)) → m < n → IsSome (rebuild H m n h p) ↔ (length p ≡ path_length m n)

-- both_roots(n, n, true, r, {}) = (r, r)
abbrev pub BothOfKnown : Type 0
BothOfKnown = (H : List ℕ → List ℕ) (n : ℕ) (r : List ℕ) → both_roots H n n true r [] ≡ Some (r, r)

-- both_roots(n, n, false, r, {c}) = (c, c)
abbrev pub BothOfUnknown : Type 0
BothOfUnknown = (H : List ℕ → List ℕ) (n : ℕ) (r c : List ℕ) → both_roots H n n false r (c ∷ []) ≡ Some (c, c)

-- for m < n and m <= k both_roots(m, n, b, r, q : s) = (x, H(01 || y || s)) with (x, y) = both_roots(m, k, b, r, q)
abbrev pub BothInLeft : Type 0
BothInLeft =
    (H : List ℕ → List ℕ) (m n k : ℕ) (b : Bool) (r s : List ℕ) (q : List (List ℕ)) → m < n → k ≡ split n → m ≤ k
    → both_roots H m n b r (q ++ s ∷ []) ≡ option_map (λ (x, y). (x, hash_node H y s)) (both_roots H m k b r q)

-- for k < m < n both_roots(m, n, b, r, q : s) = (H(01 || s || x), H(01 || s || y)) with (x, y) = both_roots(m - k, n - k, false, r, q)
abbrev pub BothInRight : Type 0
BothInRight =
    (H : List ℕ → List ℕ) (m n k : ℕ) (b : Bool) (r s : List ℕ) (q : List (List ℕ)) → m < n → k ≡ split n → k < m
    → both_roots H m n b r (q ++ s ∷ []) ≡ option_map (λ (x, y). (hash_node H s x, hash_node H s y)) (both_roots H (m - k) (n - k) false r q)

-- for 0 < m <= n two roots are rebuilt exactly from a path as long as SUBPROOF(m, D[n], b)
abbrev pub BothDefined : Type 0
BothDefined =
    (H : List ℕ → List ℕ) (m n : ℕ) (b : Bool) (r : List ℕ) (p : List (List ℕ)) → 0 < m → m ≤ n
    → IsSome (both_roots H m n b r p) ↔ (length p ≡ subproof_length m n b)

-- a PATH rebuilds MTH from its leaf
abbrev pub PathRebuilds : Type 0
PathRebuilds =
    (H : List ℕ → List ℕ) (m : ℕ) (D : List (List ℕ)) → m < length D → rebuild H m (length D) (get_or D m []) (path H m D) ≡ Some (mth H D)

-- so every PATH is accepted
abbrev pub PathAccepted : Type 0
PathAccepted =
    (H : List ℕ → List ℕ) (m : ℕ) (D : List (List ℕ)) → m < length D
    → AcceptsInclusion H (get_or D m []) m (length D) (path H m D) (mth H D)

-- an accepted path is not refused
abbrev pub PathNotRefused : Type 0
PathNotRefused =
    (H : List ℕ → List ℕ) (h : List ℕ) (m n : ℕ) (p : List (List ℕ)) (root : List ℕ) (fault : ProofFault)
    → AcceptsInclusion H h m n p root → ¬ (RefusesInclusion H h m n p root fault)

-- no audit path is refused in two ways
abbrev pub PathOneRefusal : Type 0
PathOneRefusal =
    (H : List ℕ → List ℕ) (h : List ℕ) (m n : ℕ) (p : List (List ℕ)) (root : List ℕ) (one other : ProofFault)
    → RefusesInclusion H h m n p root one → RefusesInclusion H h m n p root other → one ≡ other

-- a leaf of the list D with its PATH is accepted, and there is no evidence against it: its strings are the list's
abbrev pub PathHolds : Type 0
PathHolds =
    (H : List ℕ → List ℕ) → ((x : List ℕ) → length (H x) ≡ 32) → (D : List (List ℕ)) (leaf : List ℕ) (m : ℕ) (p : List (List ℕ)) → IsAudited H D leaf m p
    → AcceptsInclusion H (hash_leaf H leaf) m (length D) p (mth_of_leaves H D) × (evid H D leaf m p ≡ None)

-- each element is as long as a hash, 32 bytes
abbrev pub AreHashes : List (List ℕ) → Type 0
AreHashes p = All (λ s. length s ≡ 32) p

-- a PROOF rebuilds MTH of the first m leaves and of all leaves
abbrev pub ProofRebuilds : Type 0
ProofRebuilds =
    (H : List ℕ → List ℕ) (m : ℕ) (D : List (List ℕ)) → 0 < m → m < length D
    → both_roots H m (length D) true (mth H (take m D)) (proof H m D) ≡ Some (mth H (take m D), mth H D)

-- so every PROOF is accepted
abbrev pub ProofAccepted : Type 0
ProofAccepted =
    (H : List ℕ → List ℕ) (m : ℕ) (D : List (List ℕ)) → 0 < m → m < length D
    → AcceptsConsistency H m (length D) (mth H (take m D)) (mth H D) (proof H m D)

-- an accepted proof is not refused
abbrev pub ProofNotRefused : Type 0
ProofNotRefused =
    (H : List ℕ → List ℕ) (m n : ℕ) (x y : List ℕ) (p : List (List ℕ)) (fault : ProofFault)
    → AcceptsConsistency H m n x y p → ¬ (RefusesConsistency H m n x y p fault)

-- no consistency proof is refused in two ways
abbrev pub ProofOneRefusal : Type 0
ProofOneRefusal =
    (H : List ℕ → List ℕ) (m n : ℕ) (x y : List ℕ) (p : List (List ℕ)) (one other : ProofFault)
    → RefusesConsistency H m n x y p one → RefusesConsistency H m n x y p other → one ≡ other
