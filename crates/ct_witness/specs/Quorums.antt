-- Consequences when enough of several witnesses cosigned a tree. A witness is represented by the list of the requests that it granted, in
-- their order; for a faulty witness this is any list. H is any hash function on byte lists with hashes of 32 bytes.
use Rattle.std.specs.Prelude.{◌≡◌, ◌⊎◌, ◌+◌, ◌-◌, ◌<◌, ◌≤◌, ⊤, ℕ, Bool, true, false, List, [], ◌∷◌, length, count_by, flat_map, Contains}
use Rattle.ct_verify.specs.Hashed.{CollideAmong, IsHashedInLog}
use Rattle.ct_witness.specs.declared.tree.Tree.{Tree}
use Rattle.ct_witness.specs.Runs.{Granted, IsWitness, IsCosigned, IsTreeOf, IsTreeOfFirst, newest_tree, no_tree, granted_strings}

-- at least k of these witnesses have the property P. For an empty list, k is 0. For a first witness and others: the first one has P and k -
-- 1 of the others have it, or k of the others have it
unfoldable pub AtLeast : (List Granted → Type 0) → ℕ → List (List Granted) → Type 0
AtLeast P k [] = k ≡ 0
AtLeast P k (w ∷ ws) = (P w × AtLeast P (k - 1) ws) ⊎ AtLeast P k ws

-- at most f of these witnesses are faulty: all others follow the rules
abbrev pub AllBut : (List ℕ → List ℕ) → ℕ → List (List Granted) → Type 0
AllBut H f ws = AtLeast (IsWitness H) (length ws - f) ws

-- one mark for each witness; each marked witness cosigned the tree
unfoldable pub AreMarked : Tree → List Bool → List (List Granted) → Type 0
AreMarked t [] [] = ⊤
AreMarked t [] (w ∷ ws) = ⊥
AreMarked t (mark ∷ marks) [] = ⊥
AreMarked t (true ∷ marks) (w ∷ ws) = IsCosigned t w × AreMarked t marks ws
AreMarked t (false ∷ marks) (w ∷ ws) = AreMarked t marks ws

-- if at least k witnesses are marked, at least k cosigned
abbrev pub MarksCount : Type 0
MarksCount =
    (t : Tree) (marks : List Bool) (ws : List (List Granted)) (k : ℕ) → AreMarked t marks ws → k ≤ count_by (λ mark. mark) marks
    → AtLeast (IsCosigned t) k ws

-- the strings that these witnesses hash, and those that are hashed in the trees of the prefixes of D
abbrev pub IsHashedByAny : (List ℕ → List ℕ) → List (List Granted) → List (List ℕ) → List ℕ → Type 0
IsHashedByAny H ws D s = Contains (flat_map (granted_strings H (no_tree H)) ws) s ⊎ IsHashedInLog H D s

-- Among n witnesses, of which at most f are faulty, j cosigned the tree a and k cosigned the tree b, and n + f < j + k. If b is the tree of
-- a list, and a is not larger, then a is the tree of a prefix of that list; or two of the hashed strings collide.
abbrev pub QuorumsAgree : Type 0
QuorumsAgree =
    (H : List ℕ → List ℕ) → ((x : List ℕ) → length (H x) ≡ 32) → (ws : List (List Granted)) (f j k : ℕ) → AllBut H f ws
    → length ws + f < j + k → (a b : Tree) → AtLeast (IsCosigned a) j ws → AtLeast (IsCosigned b) k ws → a.size ≤ b.size
    → (D : List (List ℕ)) → IsTreeOf H D b → IsTreeOfFirst H D a ⊎ CollideAmong H (IsHashedByAny H ws D)

-- The same witnesses and numbers. If j of the witnesses cosigned the tree h last, and h is the tree of a list, each tree a that k of them
-- cosigned is the tree of a prefix of that list; or two of the hashed strings collide.
abbrev pub StartsBehindNone : Type 0
StartsBehindNone =
    (H : List ℕ → List ℕ) → ((x : List ℕ) → length (H x) ≡ 32) → (ws : List (List Granted)) (f j k : ℕ) → AllBut H f ws
    → length ws + f < j + k → (h a : Tree) → AtLeast (λ w. newest_tree (no_tree H) w ≡ h) j ws → AtLeast (IsCosigned a) k ws
    → (D : List (List ℕ)) → IsTreeOf H D h → IsTreeOfFirst H D a ⊎ CollideAmong H (IsHashedByAny H ws D)

-- The bound is exact. If n + f < j + k does not hold, j and k are at most n, and n <= j + k, then any two trees that have leaves can be
-- cosigned by j and by k of n witnesses, at most f of which are faulty.
abbrev pub BoundIsExact : Type 0
BoundIsExact =
    (H : List ℕ → List ℕ) (n f j k : ℕ) → j ≤ n → k ≤ n → n ≤ j + k → j + k ≤ n + f → (a b : Tree) → 0 < a.size → 0 < b.size
    → (ws : List (List Granted)) × (length ws ≡ n) × AllBut H f ws × AtLeast (IsCosigned a) j ws × AtLeast (IsCosigned b) k ws
