-- The collision that the evidence for a consistency proof returns. H is any hash function on byte lists, E is the old leaves, D the new
-- ones, n their number and k the largest power of two smaller than n. When two strings are compared, the proof's comes before a list's
-- and the old list's before the new one's.
use Rattle.std.specs.Prelude.{◌≡◌, ℕ, ◌-◌, ◌<◌, ◌≤◌, if◌then◌else◌, bytes_eq, Bool, false, List, [], ◌∷◌, ◌++◌, length, take, drop, Option, Some, None}
use Rattle.std.specs.Option.{option_or}
use Rattle.ct_tree.specs.Tree.{split, mth_of_leaves}
use Rattle.ct_verify.specs.Rebuild.{both_roots}

-- the strings a and b, whose hashes are x and y, if they differ and have the same hash
abbrev pub clash_by : List ℕ → List ℕ → List ℕ → List ℕ → Option (List ℕ × List ℕ)
clash_by x y a b = if bytes_eq a b then None else (if bytes_eq x y then Some (a, b) else None)

-- the strings a and b, if they differ and have the same hash
abbrev pub clash : (List ℕ → List ℕ) → List ℕ → List ℕ → Option (List ℕ × List ℕ)
clash H a b = clash_by (H a) (H b) a b

-- the string of the root of leaves that are split at k: 01 || MTH(D[0:k]) || MTH(D[k:n])
abbrev pub root_string : (List ℕ → List ℕ) → ℕ → List (List ℕ) → List ℕ
root_string H k D = 1 ∷ mth_of_leaves H (take k D) ++ mth_of_leaves H (drop k D)

-- the first clash of two lists of equal length: the clash of two leaves at the same index, or of the two nodes over one part. The left part
-- comes before the right one, and both come before the node over them
pub data ClashOfLists (H : List ℕ → List ℕ) : List (List ℕ) → List (List ℕ) → Option (List ℕ × List ℕ) → Type 0 where
  leaf : {E D : List (List ℕ)} {found : Option (List ℕ × List ℕ)} (e d : List ℕ) → E ≡ e ∷ [] → D ≡ d ∷ []
      → found ≡ clash H (0 ∷ e) (0 ∷ d) → ClashOfLists H E D found
  node : {E D : List (List ℕ)} {found : Option (List ℕ × List ℕ)} (k : ℕ) (left right : Option (List ℕ × List ℕ))
      → length E ≡ length D → 1 < length D → k ≡ split (length D)
      → ClashOfLists H (take k E) (take k D) left → ClashOfLists H (drop k E) (drop k D) right
      → found ≡ option_or (option_or left right) (clash H (root_string H k E) (root_string H k D))
      → ClashOfLists H E D found

-- the first clash along a proof p from E to D: two strings that differ and have the same hash. Each of the two is hashed by a different one
-- of these: the proof, the old list, the new list. If b is true, r is the root of E. Let p = q : s, and let x and y be the roots that q
-- yields. The strings below the node over D come first. If E is within the left part, the proof's node is 01 || y || s. Otherwise the
-- proof's nodes are 01 || s || x over E and 01 || s || y over D
pub data ClashAlong (H : List ℕ → List ℕ) : Bool → List ℕ → List (List ℕ) → List (List ℕ) → List (List ℕ) → Option (List ℕ × List ℕ) → Type 0 where
  whole : {b : Bool} {r : List ℕ} {E D p : List (List ℕ)} {found : Option (List ℕ × List ℕ)}
      → length E ≡ length D → ClashOfLists H E D found → ClashAlong H b r E D p found
  left : {b : Bool} {r : List ℕ} {E D p : List (List ℕ)} {found : Option (List ℕ × List ℕ)} (k : ℕ) (q : List (List ℕ)) (s x y : List ℕ)
      (below : Option (List ℕ × List ℕ))
      → length E < length D → k ≡ split (length D) → length E ≤ k → p ≡ q ++ s ∷ [] → length s ≡ 32
      → both_roots H (length E) k b r q ≡ Some (x, y)
      → ClashAlong H b r E (take k D) q below
      → found ≡ option_or below (clash H (1 ∷ y ++ s) (root_string H k D))
      → ClashAlong H b r E D p found
  right : {b : Bool} {r : List ℕ} {E D p : List (List ℕ)} {found : Option (List ℕ × List ℕ)} (k : ℕ) (q : List (List ℕ)) (s x y : List ℕ)
      (before below : Option (List ℕ × List ℕ))
      → length E < length D → k ≡ split (length D) → k < length E → p ≡ q ++ s ∷ [] → length s ≡ 32
      → both_roots H (length E - k) (length D - k) false r q ≡ Some (x, y)
      → ClashOfLists H (take k E) (take k D) before → ClashAlong H false r (drop k E) (drop k D) q below
      → found ≡ option_or (option_or before below) (option_or (clash H (1 ∷ s ++ x) (root_string H k E)) (clash H (1 ∷ s ++ y) (root_string H k D)))
      → ClashAlong H b r E D p found
