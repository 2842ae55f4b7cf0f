-- Everything that exists while any number of nodes carry on one log over one lock (called the register here) and one object store.
use Rattle.std.specs.Prelude.{◌≡◌, ◌⊎◌, ⊤, ℕ, ◌<◌, ◌≤◌, List, [], ◌∷◌}
use Rattle.ct_node.specs.declared.state.State.{State}
use Rattle.ct_node.specs.declared.node.Node.{Node}
use Rattle.ct_node.specs.declared.node.Node.TheVariants.{Reading, Looking, Stepping, Staging, Swapping, Deleting, Putting, Placing, Heading, Answering}
use Rattle.ct_node.specs.declared.node.Outcome.{Outcome}
use Rattle.ct_node.specs.declared.node.Outcome.TheVariants.{Done, Lost, Read, Published, Bundle, Stepped, Listed}
use Rattle.ct_node.specs.Nodes.{after}

-- x is an element of the list
abbrev pub Has : {A : Type 0} → A → List A → Type 0
Has x [] = ⊥
Has x (y ∷ ys) = (x ≡ y) ⊎ Has x ys

-- the object at an index of a state's staged batch (called a bundle here)
pub record Object : Type 0 where
  pub state : State
  pub index : ℕ

-- a step that was made from the state `seen` and led to the state `new`
pub record Made : Type 0 where
  pub seen : State
  pub new : State

-- The history of a log so far:
-- - The lock holds a state (`held`), and has taken these, the newest first (`past`).
-- - These states have a staged batch (`bundles`), a head (`heads`), or their entries in the deduplication index (`places`).
-- - The requests that waited for these states were answered (`answered`).
-- - These objects exist under their public names (`objects`).
-- - These steps were ever made (`made`).
-- - These commands were ever given (`sent`), and these took effect (`came`).
--
-- A node is any command that was given. It may continue from each of them any number of times.
pub record World : Type 0 where
  pub held : State
  pub past : List State
  pub bundles : List State
  pub heads : List State
  pub places : List State
  pub answered : List State
  pub objects : List Object
  pub made : List Made
  pub sent : List Node
  pub came : List Node

-- a log at its beginning: its first state is published, and has no objects
abbrev pub beginning : State → World
beginning b =
    record {
      held = b;
      past = b ∷ [];
      bundles = b ∷ [];
      heads = b ∷ [];
      places = b ∷ [];
      answered = [];
      objects = [];
      made = [];
      sent = Reading ∷ [];
      came = [];
    }

-- The things that may happen:
-- - `Comes`: a command that was given, by any node and however long ago, takes effect. A command may take effect never, or any number of
--   times.
-- - `Makes`: a step is made. This is nobody's command.
-- - `Puts`: one of the objects that a command puts exists, before or after the command takes effect.
-- - `Goes`: a command to delete the staged batch of the state l, given at the state k, takes effect, and these staged batches are left.
-- - `Told`: a node that gave a command gets its outcome and continues. This may happen to each command that was ever given. So it covers
--   nodes that were killed, that get an outcome twice, or that continue from an earlier command.
pub data Happening : Type 0 where
  Comes : Node → Happening
  Makes : State → State → Happening
  Puts : State → ℕ → ℕ → Happening
  Goes : State → State → List State → Happening
  Told : Node → Outcome → Happening

-- the world after a command takes effect
abbrev pub comes : World → Node → World
comes w (Staging k l n) = record w { bundles = l ∷ w.bundles; came = Staging k l n ∷ w.came }
comes w (Swapping k l n) = record w { held = l; past = l ∷ w.past; came = Swapping k l n ∷ w.came }
comes w (Putting l n) = record w { came = Putting l n ∷ w.came }
comes w (Placing l) = record w { places = l ∷ w.places; came = Placing l ∷ w.came }
comes w (Heading l) = record w { heads = l ∷ w.heads; came = Heading l ∷ w.came }
comes w (Answering l) = record w { answered = l ∷ w.answered; came = Answering l ∷ w.came }
comes w Reading = w
comes w (Looking k) = w
comes w (Stepping k) = w
comes w (Deleting k l) = w

-- the world after something happened
abbrev pub happens : World → Happening → World
happens w (Comes s) = comes w s
happens w (Makes k l) = record w { made = record { seen = k; new = l } ∷ w.made }
happens w (Puts l n i) = record w { objects = record { state = l; index = i } ∷ w.objects }
happens w (Goes k l left) = record w { bundles = left; came = Deleting k l ∷ w.came }
happens w (Told s o) = record w { sent = after s o ∷ w.sent }

-- The lock takes a state only in place of the one that it holds. A command to put objects takes effect only once each of them exists.
abbrev pub MayCome : World → Node → Type 0
MayCome w (Swapping k l n) = w.held ≡ k
MayCome w (Putting l n) = (i : ℕ) → i < n → Has (record { state = l; index = i }) w.objects
MayCome w s = ⊤

-- the report that the head of the state exists is given only if it does
abbrev pub HasHead : World → Node → Type 0
HasHead w (Looking k) = Has k w.heads
HasHead w s = ⊤

-- the staged batch that is read is the state's, and it exists, or it was deleted since then and the state's head exists
abbrev pub IsBundle : (State → ℕ) → World → Node → ℕ → Type 0
IsBundle count w (Looking k) n = (n ≡ count k) × (Has k w.bundles ⊎ Has k w.heads)
IsBundle count w s n = ⊤

-- a step whose outcome is reported was made from the state that the node named
abbrev pub IsMadeOfSeen : World → Node → State → Type 0
IsMadeOfSeen w (Stepping k) l = Has (record { seen = k; new = l }) w.made
IsMadeOfSeen w s l = ⊤

-- The outcomes that may be reported to a node:
-- - That a command is done, if it took effect.
-- - That it is lost: always.
-- - Any state that the lock ever held, however long ago.
-- - That the state's head exists, if it does.
-- - The number of objects of the state's staged batch, if the batch could be read.
-- - A step, if it was made from the state that the node named, and the number of objects in its staged batch.
-- - That there is a staged batch of a state: always.
abbrev pub MayBeTold : (State → ℕ) → World → Node → Outcome → Type 0
MayBeTold count w s Done = Has s w.came
MayBeTold count w s Lost = ⊤
MayBeTold count w s (Read k) = Has k w.past
MayBeTold count w s Published = HasHead w s
MayBeTold count w s (Bundle n) = IsBundle count w s n
MayBeTold count w s (Stepped l n) = (n ≡ count l) × IsMadeOfSeen w s l
MayBeTold count w s (Listed l) = ⊤

-- The guarantees of an honest lock and store. count says how many objects a state's staged batch has.
-- - A command takes effect only if it was given.
-- - The lock takes a state only in place of the one that it holds.
-- - An object is put only if a command says so.
-- - A deletion removes only the staged batch that it names.
-- - A node is never given an outcome that is false.
abbrev pub MayHappen : (State → ℕ) → World → Happening → Type 0
MayHappen count w (Comes s) = Has s w.sent × MayCome w s
MayHappen count w (Makes k l) = ⊤
MayHappen count w (Puts l n i) = Has (Putting l n) w.sent × (i < n)
MayHappen count w (Goes k l left) = Has (Deleting k l) w.sent × ((x : State) → Has x w.bundles → Has x left ⊎ (x ≡ l))
MayHappen count w (Told s o) = Has s w.sent × MayBeTold count w s o

-- these things happened, one after the other, and led from the world w to v
unfoldable pub LeadTo : (State → ℕ) → World → List Happening → World → Type 0
LeadTo count w [] v = w ≡ v
LeadTo count w (h ∷ hs) v = MayHappen count w h × LeadTo count (happens w h) hs v

-- The world is sound. count says how many objects a state's staged batch has.
-- - Each state that the lock took is the newest one, or its head exists (`rolled`).
-- - Each such state is the newest one, or no later than the state that the newest one was made from (`order`), which is earlier than it
--   (`later`).
-- - Each head is that of a state that the lock took (`heads`).
-- - All objects of a state with a head exist (`tiles`), and its entries are in the deduplication index (`placed`).
-- - Each object that exists is of a state that the lock took (`objects`).
-- - If the requests of a state were answered, its head exists (`answered`).
-- - The newest state's staged batch exists (`bundle`).
pub record IsSoundWorld (count : State → ℕ) (w : World) : Type 0 where
  pub rolled : (l : State) → Has l w.past → (l ≡ w.held) ⊎ Has l w.heads
  pub order : (l : State) → Has l w.past → (l ≡ w.held) ⊎ (l.moment ≤ w.held.before)
  pub later : w.held.before < w.held.moment
  pub heads : (l : State) → Has l w.heads → Has l w.past
  pub tiles : (l : State) → Has l w.heads → (i : ℕ) → i < count l → Has (record { state = l; index = i }) w.objects
  pub placed : (l : State) → Has l w.heads → Has l w.places
  pub objects : (o : Object) → Has o w.objects → Has o.state w.past × (o.index < count o.state)
  pub answered : (l : State) → Has l w.answered → Has l w.heads
  pub bundle : Has w.held w.bundles

-- a log begins with a state that has no objects and was made from an earlier timestamp
abbrev pub IsFirstState : (State → ℕ) → State → Type 0
IsFirstState count b = (count b ≡ 0) × (b.before < b.moment)

-- whatever happens, the world is sound
abbrev pub WorldsAreSound : Type 0
WorldsAreSound =
    (count : State → ℕ) (b : State) (hs : List Happening) (w : World) → IsFirstState count b → LeadTo count (beginning b) hs w → IsSoundWorld count w

-- if a head exists, then all objects exist of each state that the lock took and that is no later
abbrev pub HeadsAreWhole : Type 0
HeadsAreWhole =
    (count : State → ℕ) (b : State) (hs : List Happening) (w : World) → IsFirstState count b → LeadTo count (beginning b) hs w → (l m : State)
    → Has l w.heads → Has m w.past → m.moment ≤ l.moment → (i : ℕ) → i < count m → Has (record { state = m; index = i }) w.objects

-- if each name has only one content in the states that the lock took, then this holds for all objects that were ever put
abbrev pub NamesHaveOneContent : Type 0
NamesHaveOneContent =
    (count : State → ℕ) (b : State) (hs : List Happening) (w : World) → IsFirstState count b → LeadTo count (beginning b) hs w
    → (plan : Object → List ℕ × List ℕ)
    → ((o p : Object) → Has o.state w.past → Has p.state w.past → (plan o).0 ≡ (plan p).0 → (plan o).1 ≡ (plan p).1)
    → (o p : Object) → Has o w.objects → Has p w.objects → (plan o).0 ≡ (plan p).0 → (plan o).1 ≡ (plan p).1

-- these states are a chain that begins with b, the newest first: each was made from the next one in the list
unfoldable pub IsChain : State → List Made → List State → Type 0
IsChain b made [] = ⊥
IsChain b made (l ∷ []) = l ≡ b
IsChain b made (l ∷ k ∷ rest) = Has (record { seen = k; new = l }) made × IsChain b made (k ∷ rest)

-- the states that the lock took are one chain
abbrev pub PastsAreChains : Type 0
PastsAreChains =
    (count : State → ℕ) (b : State) (hs : List Happening) (w : World) → IsFirstState count b → LeadTo count (beginning b) hs w
    → IsChain b w.made w.past

-- the lock holds the newest of the states that it took
abbrev pub HoldsNewest : Type 0
HoldsNewest =
    (count : State → ℕ) (b : State) (hs : List Happening) (w : World) → IsFirstState count b → LeadTo count (beginning b) hs w
    → (rest : List State) × (w.past ≡ w.held ∷ rest)

-- If a swap that was given may still take effect, then the staged batch of its state exists. So no staged batch that a state may need is
-- deleted.
abbrev pub StagedStand : Type 0
StagedStand =
    (count : State → ℕ) (b : State) (hs : List Happening) (w : World) → IsFirstState count b → LeadTo count (beginning b) hs w → (k l : State) (n : ℕ)
    → Has (Swapping k l n) w.sent → w.held ≡ k → Has l w.bundles

-- a head is asked for only for a state that the lock took
abbrev pub AskedAreTaken : Type 0
AskedAreTaken =
    (count : State → ℕ) (b : State) (hs : List Happening) (w : World) → IsFirstState count b → LeadTo count (beginning b) hs w → (l : State)
    → Has (Heading l) w.sent → Has l w.past

-- If a node was given the command to have a step made from a state, then all entries of that state and of the earlier ones are in the
-- deduplication index, and all their objects exist.
abbrev pub StepsFindAll : Type 0
StepsFindAll =
    (count : State → ℕ) (b : State) (hs : List Happening) (w : World) → IsFirstState count b → LeadTo count (beginning b) hs w → (k l : State)
    → Has (Stepping k) w.sent → Has l w.past → l.moment ≤ k.moment
    → Has l w.places × ((i : ℕ) → i < count l → Has (record { state = l; index = i }) w.objects)

-- Whatever happened, a node that starts can still publish the newest state: there are events that lead to its head, and the lock's state
-- does not change.
abbrev pub CanBePublished : Type 0
CanBePublished =
    (count : State → ℕ) (b : State) (hs : List Happening) (w : World) → IsFirstState count b → LeadTo count (beginning b) hs w
    → (more : List Happening) × (v : World) × LeadTo count w more v × (v.held ≡ w.held) × Has w.held v.heads
