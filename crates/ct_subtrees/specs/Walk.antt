-- The parts of a tree on the walk from its root down, and the refusals of that walk, as the contracts of the private functions cite them.
use Rattle.std.specs.Prelude.{◌≡◌, ℕ, zero, suc, ◌-◌, ◌<◌, List, Some, Bool, true, false, nat_lt, if◌then◌else◌}
use Rattle.ct_tree.specs.Tree.{split}
use Rattle.ct_subtrees.specs.Subtrees.{is_whole}
use Rattle.ct_subtrees.specs.Roots.{subtree_roots}
use Rattle.ct_subtrees.specs.declared.descent.Part.{Part}
use Rattle.ct_subtrees.specs.declared.fault.SubtreeFault.{SubtreeFault}
use Rattle.ct_subtrees.specs.declared.fault.SubtreeFault.TheVariants.{NotASubtree, BeyondTree, IndexOutOfRange, PathTooLong, PathTooShort}
use Rattle.ct_subtrees.specs.declared.fault.SubtreeFault.TheVariants.{FirstMismatch, RootMismatch}

-- when a proof of `given` elements is refused because of its length: a proof at this place has `wanted` elements
abbrev pub HasOtherLength : ℕ → ℕ → SubtreeFault → Type 0
HasOtherLength wanted given PathTooLong = wanted < given
HasOtherLength wanted given PathTooShort = given < wanted
HasOtherLength wanted given NotASubtree = ⊥
HasOtherLength wanted given BeyondTree = ⊥
HasOtherLength wanted given IndexOutOfRange = ⊥
HasOtherLength wanted given FirstMismatch = ⊥
HasOtherLength wanted given RootMismatch = ⊥

-- the subtree is not all of the part t of the tree
abbrev pub is_split : Part → Bool
is_split t = if is_whole t.place.start t.place.end t.place.size then false else true

-- the half of the part t that has the end of the subtree, as `subtree_down` chooses it. A part that is all in the subtree has no halves
unfoldable pub part_below : Part → Part
part_below t =
    let s = t.place.start in
    let e = t.place.end in
    let n = t.place.size in
    if is_whole s e n then t
    else (if nat_lt (split n) e
    then (if nat_lt s (split n)
    then record { place = record { start = 0; end = e - split n; size = n - split n }; known = false }
    else record { place = record { start = s - split n; end = e - split n; size = n - split n }; known = t.known })
    else record { place = record { start = s; end = e; size = split n }; known = t.known })

-- the part that is d levels below the part t
unfoldable pub part_at : ℕ → Part → Part
part_at zero t = t
part_at (suc d) t = part_below (part_at d t)

-- z is the two hashes that the proof q yields in the part t. If t.known is true, r is the hash of the subtree
abbrev pub PartYields : (List ℕ → List ℕ) → Part → List ℕ → List (List ℕ) → List ℕ × List ℕ → Type 0
PartYields H t r q z = subtree_roots H t.place.start t.place.end t.place.size t.known r q ≡ Some z
