-- The strings that are hashed when a path or a proof is checked, and a collision among strings. H is any function from byte lists to byte
-- lists, k the largest power of two smaller than n, s the last element of a path or proof, and q the elements before it.
use Rattle.std.specs.Prelude.{◌≡◌, ℕ, ◌-◌, ◌<◌, ◌≤◌, Bool, false, nat_lt, if◌then◌else◌, List, [], ◌∷◌, ◌++◌, length, take, drop, reverse, Option, Some, None}
use Rattle.ct_tree.specs.Tree.{split}
use Rattle.ct_verify.specs.Clash.{root_string}
use Rattle.ct_verify.specs.Evidence.{Collides}
use Rattle.ct_verify.specs.Rebuild.{rebuild_down, both_down}

-- two strings that S has differ and have the same hash
abbrev pub CollideAmong : (List ℕ → List ℕ) → (List ℕ → Type 0) → Type 0
CollideAmong H S = (a b : List ℕ) × S a × S b × Collides H a b

-- the strings that are hashed when the root of the leaves D is computed (RFC 6962, section 2.1): 00 || leaf, and 01 || left || right of
-- each node
pub data IsHashedIn (H : List ℕ → List ℕ) : List (List ℕ) → List ℕ → Type 0 where
  leaf : (d : List ℕ) → IsHashedIn H (d ∷ []) (0 ∷ d)
  node : (D : List (List ℕ)) (k : ℕ) → 1 < length D → k ≡ split (length D) → IsHashedIn H D (root_string H k D)
  left : (D : List (List ℕ)) (k : ℕ) (s : List ℕ) → 1 < length D → k ≡ split (length D) → IsHashedIn H (take k D) s → IsHashedIn H D s
  right : (D : List (List ℕ)) (k : ℕ) (s : List ℕ) → 1 < length D → k ≡ split (length D) → IsHashedIn H (drop k D) s → IsHashedIn H D s

-- the strings that are hashed when the root of some prefix of the leaves D is computed, as a log does while it grows
abbrev pub IsHashedInLog : (List ℕ → List ℕ) → List (List ℕ) → List ℕ → Type 0
IsHashedInLog H D s = (n : ℕ) × (n ≤ length D) × IsHashedIn H (take n D) s

-- the string of a node over this hash, if there is a hash, and other strings after it
abbrev pub with_string : Option (List ℕ) → (List ℕ → List ℕ) → List (List ℕ) → List (List ℕ)
with_string None string others = others
with_string (Some r) string others = string r ∷ others

-- the strings of nodes over these two hashes, if there are hashes, and other strings after them
abbrev pub with_strings : Option (List ℕ × List ℕ) → (List ℕ → List ℕ → List (List ℕ)) → List (List ℕ) → List (List ℕ)
with_strings None strings others = others
with_strings (Some (x, y)) strings others = strings x y ++ others

-- the strings that `rebuild_down` hashes: 01 || left || right of each node above the leaf at index m of n
unfoldable pub path_strings_down : (List ℕ → List ℕ) → ℕ → ℕ → List ℕ → List (List ℕ) → List (List ℕ)
path_strings_down H m n h [] = []
path_strings_down H m n h (s ∷ q) =
    let k = split n in
    if nat_lt m k then with_string (rebuild_down H m k h q) (λ r. 1 ∷ r ++ s) (path_strings_down H m k h q)
    else with_string (rebuild_down H (m - k) (n - k) h q) (λ r. 1 ∷ s ++ r) (path_strings_down H (m - k) (n - k) h q)

-- the strings that are hashed when the audit path p of the leaf hash h at index m of n leaves is checked (RFC 9162, section 2.1.3.2)
unfoldable pub path_strings : (List ℕ → List ℕ) → ℕ → ℕ → List ℕ → List (List ℕ) → List (List ℕ)
path_strings H m n h p = path_strings_down H m n h (reverse p)

-- the strings that `both_down` hashes: 01 || left || right of each node of the newer tree, and of the older one
unfoldable pub proof_strings_down : (List ℕ → List ℕ) → ℕ → ℕ → Bool → List ℕ → List (List ℕ) → List (List ℕ)
proof_strings_down H m n b r [] = []
proof_strings_down H m n b r (s ∷ q) =
    let k = split n in
    if nat_lt m n then
    (if nat_lt k m
    then with_strings (both_down H (m - k) (n - k) false r q) (λ x y. (1 ∷ s ++ x) ∷ (1 ∷ s ++ y) ∷ []) (proof_strings_down H (m - k) (n - k) false r q)
    else with_strings (both_down H m k b r q) (λ x y. (1 ∷ y ++ s) ∷ []) (proof_strings_down H m k b r q))
    else []

-- the strings that are hashed when the consistency proof p from the root r of m leaves to n leaves is checked (RFC 9162, section 2.1.4.2)
unfoldable pub proof_strings : (List ℕ → List ℕ) → ℕ → ℕ → Bool → List ℕ → List (List ℕ) → List (List ℕ)
proof_strings H m n b r p = proof_strings_down H m n b r (reverse p)
