-- The waiting entries are looked up before a step is made of them, by an identity of each entry, which is a byte list.
use Rattle.std.specs.Prelude.{⊤, ℕ, List, [], ◌∷◌, AllPairs}
use Rattle.ct_node.specs.declared.state.State.{State}
use Rattle.ct_node.specs.declared.node.Node.TheVariants.{Stepping}
use Rattle.ct_node.specs.Worlds.{Has, World, Happening, Makes, beginning, happens, IsFirstState, LeadTo}

-- the two lists have no identity in common
abbrev pub ShareNone : List (List ℕ) → List (List ℕ) → Type 0
ShareNone known new = (i : List ℕ) → Has i known → Has i new → ⊥

-- A step from the state k to l is made after a look-up in the deduplication index. ids returns the identities of the entries that a state
-- adds. For a look-up:
-- - The node that made it had the command to have a step made from k (`stepping`).
-- - The index returned these identities (`stored`).
-- - It misses no entry of a state whose entries were added to it (`found`).
-- - It returned none of the step's identities (`missed`).
pub record IsLookedUp (ids : State → List (List ℕ)) (w : World) (k l : State) : Type 0 where
  pub stepping : Has (Stepping k) w.sent
  pub stored : List (List ℕ)
  pub found : (x : State) → Has x w.places → (i : List ℕ) → Has i (ids x) → Has i stored
  pub missed : ShareNone stored (ids l)

-- each step that is made is looked up
abbrev pub LooksUp : (State → List (List ℕ)) → World → Happening → Type 0
LooksUp ids w (Makes k l) = IsLookedUp ids w k l
LooksUp ids w h = ⊤

-- each step that is made on the way from the world w is looked up
unfoldable pub AllLookUp : (State → List (List ℕ)) → World → List Happening → Type 0
AllLookUp ids w [] = ⊤
AllLookUp ids w (h ∷ hs) = LooksUp ids w h × AllLookUp ids (happens w h) hs

-- If each step is looked up, no two states that the lock took add the same identity. So a repeat is possible only if the index misses an
-- entry.
abbrev pub StatesAddOthers : Type 0
StatesAddOthers =
    (count : State → ℕ) (b : State) (hs : List Happening) (w : World) → IsFirstState count b → LeadTo count (beginning b) hs w
    → (ids : State → List (List ℕ)) → AllLookUp ids (beginning b) hs → AllPairs (λ l k. ShareNone (ids k) (ids l)) w.past
