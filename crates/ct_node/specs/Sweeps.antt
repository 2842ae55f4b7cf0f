-- The objects and heads that are left if any process deletes partial tiles and heads that nobody needs any more.
use Rattle.std.specs.Prelude.{◌≡◌, ◌⊎◌, ℕ, ◌<◌, ◌≤◌, List, [], ◌∷◌}
use Rattle.ct_node.specs.declared.state.State.{State}
use Rattle.ct_node.specs.declared.node.Node.TheVariants.{Heading}
use Rattle.ct_node.specs.Worlds.{Has, Object, World, Happening, Comes, Puts, beginning, happens, MayHappen, LeadTo, IsFirstState}

-- A tile is a pair: the name of its full tile, and how many hashes or entries it has. The second tile is full, with 256 of them, and the
-- first one is a part of it (C2SP tlog-tiles, "Partial Tiles").
abbrev pub IsFullFor : List ℕ × ℕ → List ℕ × ℕ → Type 0
IsFullFor one other = (one.0 ≡ other.0) × (one.1 < other.1) × (other.1 ≡ 256)

-- Everything that was ever put (`world`), and the objects (`objects`) and heads (`heads`) of it that still exist.
pub record SweptWorld : Type 0 where
  pub world : World
  pub objects : List Object
  pub heads : List State

-- a log at its beginning
abbrev pub swept_beginning : State → SweptWorld
swept_beginning b = record { world = beginning b; objects = []; heads = b ∷ [] }

-- The things that may happen:
-- - `Beside`: anything except such a deletion.
-- - `TileGoes`: the objects with this tile are deleted, since the given object was put. The list has the objects that are left.
-- - `HeadGoes`: the heads with the first state's timestamp are deleted, since the second state's head was put. The list has the heads that
--   are left.
pub data SweptHappening : Type 0 where
  Beside : Happening → SweptHappening
  TileGoes : List ℕ × ℕ → Object → List Object → SweptHappening
  HeadGoes : State → State → List State → SweptHappening

-- the objects that exist after anything except such a deletion: an object that was deleted may be put again
abbrev pub objects_behind : Happening → List Object → List Object
objects_behind (Puts l n i) objects = record { state = l; index = i } ∷ objects
objects_behind h objects = objects

-- the heads that exist after anything except such a deletion
abbrev pub heads_behind : Happening → List State → List State
heads_behind (Comes (Heading l)) heads = l ∷ heads
heads_behind h heads = heads

-- the world after something happened
abbrev pub happens_swept : SweptWorld → SweptHappening → SweptWorld
happens_swept w (Beside h) = record { world = happens w.world h; objects = objects_behind h w.objects; heads = heads_behind h w.heads }
happens_swept w (TileGoes n p left) = record w { objects = left }
happens_swept w (HeadGoes l m left) = record w { heads = left }

-- each element is left or is of those that are deleted, and nothing is left that did not exist before
abbrev pub AreLeft : {A : Type 0} → (A → Type 0) → List A → List A → Type 0
AreLeft {A} Gone stood left = ((x : A) → Has x stood → Has x left ⊎ Gone x) × ((x : A) → Has x left → Has x stood)

-- The things that may happen, if tile returns the tile of each object. Everything that may happen without deletions may happen. A partial
-- tile is deleted only if its full tile was put, whether the full tile still exists or not. A head is deleted only if a later one was put.
abbrev pub MayHappenSwept : (State → ℕ) → (Object → List ℕ × ℕ) → SweptWorld → SweptHappening → Type 0
MayHappenSwept count tile w (Beside h) = MayHappen count w.world h
MayHappenSwept count tile w (TileGoes n p left) = Has p w.world.objects × IsFullFor n (tile p) × AreLeft (λ x. tile x ≡ n) w.objects left
MayHappenSwept count tile w (HeadGoes l m left) = Has m w.world.heads × (l.moment < m.moment) × AreLeft (λ x. x.moment ≡ l.moment) w.heads left

-- these things happened, one after the other, and led from the first world to the second
unfoldable pub LeadToSwept : (State → ℕ) → (Object → List ℕ × ℕ) → SweptWorld → List SweptHappening → SweptWorld → Type 0
LeadToSwept count tile w [] v = w ≡ v
LeadToSwept count tile w (h ∷ hs) v = MayHappenSwept count tile w h × LeadToSwept count tile (happens_swept w h) hs v

-- an object exists that is this tile, or the full tile of which it is a part
abbrev pub StandsInstead : (Object → List ℕ × ℕ) → SweptWorld → List ℕ × ℕ → Type 0
StandsInstead tile w n = (p : Object) × Has p w.objects × ((tile p ≡ n) ⊎ IsFullFor n (tile p))

-- The properties that deletions keep:
-- - For each object that was ever put, one exists that is its tile or the full tile (`objects`).
-- - The same holds for each object of each state that a head that was ever put covers (`covered`).
-- - For each head that was ever put, one exists that is no earlier (`heads`).
-- - Only objects and heads that were put exist (`put`, `stood`).
pub record IsStillRead (count : State → ℕ) (tile : Object → List ℕ × ℕ) (w : SweptWorld) : Type 0 where
  pub objects : (o : Object) → Has o w.world.objects → StandsInstead tile w (tile o)
  pub covered : (l m : State) → Has l w.world.heads → Has m w.world.past → m.moment ≤ l.moment → (i : ℕ) → i < count m
      → StandsInstead tile w (tile (record { state = m; index = i }))
  pub heads : (l : State) → Has l w.world.heads → (m : State) × Has m w.heads × (l.moment ≤ m.moment)
  pub put : (o : Object) → Has o w.objects → Has o w.world.objects
  pub stood : (l : State) → Has l w.heads → Has l w.world.heads

-- After any such deletions, everything that was put comes from a history without deletions, so all laws about such histories apply. All
-- that must be read still exists.
abbrev pub SweepsKeep : Type 0
SweepsKeep =
    (count : State → ℕ) (tile : Object → List ℕ × ℕ) (b : State) (hs : List SweptHappening) (w : SweptWorld) → IsFirstState count b
    → LeadToSwept count tile (swept_beginning b) hs w → ((past : List Happening) × LeadTo count (beginning b) past w.world) × IsStillRead count tile w
