-- How near nodes are to their answers if no store fails: one node, and any number of nodes over one lock (called the register here).
use Rattle.std.specs.Prelude.{◌≡◌, ⊤, true, ℕ, ◌<◌, ◌≤◌, ◌*◌, List, [], ◌∷◌, ◌++◌, length}
use Rattle.ct_node.specs.declared.state.State.{State}
use Rattle.ct_node.specs.declared.node.Node.{Node}
use Rattle.ct_node.specs.declared.node.Node.TheVariants.{Reading, Looking, Stepping, Staging, Swapping, Deleting, Putting, Placing, Heading, Answering}
use Rattle.ct_node.specs.declared.node.Outcome.{Outcome}
use Rattle.ct_node.specs.declared.node.Outcome.TheVariants.{Done, Lost, Read, Published, Bundle, Stepped}
use Rattle.ct_node.specs.Nodes.{after, follows}
use Rattle.ct_node.specs.Worlds.{Has, World, Happening, beginning, comes, IsFirstState, LeadTo}

-- after how many outcomes a node comes to its answer at most, if each of its commands succeeds
abbrev pub distance : Node → ℕ
distance Reading = 8
distance (Looking k) = 7
distance (Stepping k) = 6
distance (Staging k l n) = 5
distance (Swapping k l n) = 4
distance (Deleting k l) = 7
distance (Putting l n) = 3
distance (Placing l) = 2
distance (Heading l) = 1
distance (Answering l) = 0

-- the outcome says that the command succeeded, and brings the node on to its answer
abbrev pub IsSuccess : Node → Outcome → Type 0
IsSuccess Reading (Read k) = ⊤
IsSuccess (Looking k) Published = ⊤
IsSuccess (Looking k) (Bundle n) = ⊤
IsSuccess (Stepping k) (Stepped l n) = follows k l ≡ true
IsSuccess (Staging k l n) Done = ⊤
IsSuccess (Swapping k l n) Done = ⊤
IsSuccess (Deleting k l) Done = ⊤
IsSuccess (Deleting k l) Lost = ⊤
IsSuccess (Putting l n) Done = ⊤
IsSuccess (Placing l) Done = ⊤
IsSuccess (Heading l) Done = ⊤
IsSuccess s o = ⊥

-- no node is further away from its answer than 8 outcomes
abbrev pub IsNear : Type 0
IsNear = (s : Node) → distance s ≤ 8

-- A turn: one node of a list, between the others, is told the outcome of its command.
pub record Turn : Type 0 where
  pub before : List Node
  pub node : Node
  pub behind : List Node
  pub outcome : Outcome

-- the world after a turn: a command that is done took effect
abbrev pub after_turn : World → Node → Outcome → World
after_turn w s Done = comes w s
after_turn w s o = w

-- The outcome of a command if no store fails. A reading returns the state that the lock holds. The lock takes a swap if it holds the state
-- that is to be replaced, and only otherwise the swap is lost. A head that is found exists. A node reads again after its answer, and each
-- other command succeeds.
abbrev pub IsWithoutFailure : World → Node → Outcome → Type 0
IsWithoutFailure w Reading (Read k) = w.held ≡ k
IsWithoutFailure w (Looking k) Published = Has k w.heads
IsWithoutFailure w (Swapping k l n) Done = w.held ≡ k
IsWithoutFailure w (Swapping k l n) Lost = ¬ (w.held ≡ k)
IsWithoutFailure w (Answering l) Done = ⊤
IsWithoutFailure w s o = IsSuccess s o

-- the nodes have these turns, in the order in which their commands took effect, and no store fails
unfoldable pub AreWithoutFailure : World → List Node → List Turn → Type 0
AreWithoutFailure w nodes [] = ⊤
AreWithoutFailure w nodes (t ∷ ts) =
    (nodes ≡ t.before ++ t.node ∷ t.behind) × IsWithoutFailure w t.node t.outcome
    × AreWithoutFailure (after_turn w t.node t.outcome) (t.before ++ after t.node t.outcome ∷ t.behind) ts

-- in one of these turns a node comes to its answer
abbrev pub SomeNodeAnswers : List Turn → Type 0
SomeNodeAnswers ts = (t : Turn) × Has t ts × ((l : State) × (after t.node t.outcome ≡ Answering l))

-- Whatever happened before, let any nodes start. If no store fails after that, some node comes to its answer within 9 turns for each of the
-- nodes, whichever of them have the turns.
abbrev pub StartedNodesAnswer : Type 0
StartedNodesAnswer =
    (count : State → ℕ) (b : State) (hs : List Happening) (w : World) → IsFirstState count b → LeadTo count (beginning b) hs w
    → (nodes : List Node) (ts : List Turn) → 0 < length nodes → ((s : Node) → Has s nodes → s ≡ Reading) → AreWithoutFailure w nodes ts
    → 9 * length nodes ≤ length ts → SomeNodeAnswers ts

-- The same for nodes with any commands that were given before, within 13 turns for each of them: such a node may have read a state that the
-- lock does not hold any more, so it may lose two swaps.
abbrev pub NodesAnswerAgain : Type 0
NodesAnswerAgain =
    (count : State → ℕ) (b : State) (hs : List Happening) (w : World) → IsFirstState count b → LeadTo count (beginning b) hs w
    → (nodes : List Node) (ts : List Turn) → 0 < length nodes → ((s : Node) → Has s nodes → Has s w.sent) → AreWithoutFailure w nodes ts
    → 13 * length nodes ≤ length ts → SomeNodeAnswers ts
