-- The state that a node continues from when it starts, for whatever happens to the commands of any number of nodes.
use Rattle.std.specs.Prelude.{◌≡◌, ◌⊎◌, ℕ, ◌≤◌, List, Some, true}
use Rattle.ct_node.specs.declared.state.State.{State}
use Rattle.ct_node.specs.declared.starting.Point.{Point}
use Rattle.ct_node.specs.declared.starting.Other.{Other}
use Rattle.ct_node.specs.declared.starting.Found.{Found}
use Rattle.ct_node.specs.declared.starting.Beginning.TheVariants.{Goes}
use Rattle.ct_node.specs.Worlds.{Has, Object, Made, World, IsFirstState}
use Rattle.ct_node.specs.Sweeps.{SweptHappening, SweptWorld, LeadToSwept, swept_beginning}
use Rattle.ct_node.specs.Starts.{started, IfAny, IsNoFurther}

-- how far a state's head is, if size returns the number of entries of a state
abbrev pub point_of : (State → ℕ) → State → Point
point_of size k = record { size = size k; moment = k.moment }

-- The lock's head that was read is that of a state that the lock held, however long ago (`register`, `held`). Each head that exists is no
-- later than the lock's, or the newest head that the store lists, read after the lock, is no earlier than it (`listed`).
pub record IsReadTruly (size : State → ℕ) (w : SweptWorld) (k : State) (f : Found) : Type 0 where
  pub register : f.register ≡ Some (point_of size k)
  pub held : Has k w.world.past
  pub listed : (l : State) → Has l w.heads → (l.moment ≤ k.moment) ⊎ ((q : Other) × (f.listed ≡ Some q) × (l.moment ≤ q.at.moment))

-- A node that continues from the state k is ahead of everything that was published:
-- - No head that was ever put is later (`heads`).
-- - No requests that waited for a later state were answered (`answered`).
-- - No state that the lock took is later, except the newest if its head was not put (`past`).
pub record IsTakenUp (w : World) (k : State) : Type 0 where
  pub heads : (l : State) → Has l w.heads → l.moment ≤ k.moment
  pub answered : (l : State) → Has l w.answered → l.moment ≤ k.moment
  pub past : (l : State) → Has l w.past → (l.moment ≤ k.moment) ⊎ ((l ≡ w.held) × (Has l w.heads → ⊥))

-- Suppose that a node that starts has read the lock and the list of heads truthfully, whatever happens to the nodes' commands, and whatever
-- is garbage-collected meanwhile. If it continues, it does so from a state of that history after which nothing is published, whatever else
-- it found. So it does not continue from a lock that was rolled back to a state before a published head.
abbrev pub StartsTakeUpNewest : Type 0
StartsTakeUpNewest =
    (count size : State → ℕ) (tile : Object → List ℕ × ℕ) (b : State) (hs : List SweptHappening) (w : SweptWorld)
    → IsFirstState count b → LeadToSwept count tile (swept_beginning b) hs w
    → (k : State) (f : Found) → IsReadTruly size w k f → started f ≡ Goes → IsTakenUp w.world k

-- the head is that of a state that the lock took
abbrev pub IsPointOf : (State → ℕ) → World → Point → Type 0
IsPointOf size w q = (l : State) × Has l w.past × (q ≡ point_of size l)

-- the same, and if it has the size and timestamp of the newest state's head, it has its root
abbrev pub IsRootedOf : (State → ℕ) → World → Other → Type 0
IsRootedOf size w o = IsPointOf size w o.at × (o.at ≡ point_of size w.held → o.same ≡ true)

-- Everything that was found is from the history, and nothing changed while it was read. The lock's head is the newest state's (`register`).
-- Each other head is that of a state that the lock took (`seen`, `published`, `listed`, `guard`). The guard let through the heads that the
-- store lists (`guards`).
pub record IsAllOf (size : State → ℕ) (w : World) (f : Found) : Type 0 where
  pub register : f.register ≡ Some (point_of size w.held)
  pub seen : IfAny (IsRootedOf size w) f.seen
  pub published : IfAny (IsRootedOf size w) f.published
  pub listed : IfAny (IsRootedOf size w) f.listed
  pub guard : f.guarded ≡ true → IfAny (IsRootedOf size w) f.guard
  pub guards : f.guarded ≡ true → (q : Other) → f.listed ≡ Some q → (g : Other) × (f.guard ≡ Some g) × IsNoFurther q.at g.at

-- no step has fewer entries than the state that it was made from
abbrev pub StepsAdd : (State → ℕ) → List Made → Type 0
StepsAdd size made = (m : Made) → Has m made → size m.seen ≤ size m.new

-- Whatever happens to the nodes' commands, a node that starts and finds only things from that history continues, if no step has fewer
-- entries than the state that it was made from.
abbrev pub StartsGoOn : Type 0
StartsGoOn =
    (count size : State → ℕ) (tile : Object → List ℕ × ℕ) (b : State) (hs : List SweptHappening) (w : SweptWorld)
    → IsFirstState count b → LeadToSwept count tile (swept_beginning b) hs w
    → StepsAdd size w.world.made → (f : Found) → IsAllOf size w.world f → started f ≡ Goes
