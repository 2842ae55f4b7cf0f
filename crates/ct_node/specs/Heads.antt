-- The heads that guards let through beside the nodes that write a log. H is any hash function on byte lists with digests of 32 bytes.
use Rattle.std.specs.Prelude.{◌≡◌, ◌⊎◌, ⊤, ℕ, List, [], ◌∷◌, length, take, All}
use Rattle.std.specs.declared.option.Option.{Option}
use Rattle.ct_tree.specs.declared.head.Head.{Head}
use Rattle.ct_data_tiles.specs.TileLeaf.{Tiled}
use Rattle.ct_guard.specs.NewestHead.{HeadStep, AreHeadSteps, IsHeadOfFirst, IsHashedForHeads}
use Rattle.ct_step.specs.declared.line.StateLine.{StateLine}
use Rattle.ct_verify.specs.Hashed.{CollideAmong}
use Rattle.ct_node.specs.declared.state.State.{State}
use Rattle.ct_node.specs.declared.node.Node.TheVariants.{Heading}
use Rattle.ct_node.specs.Worlds.{Has, Made, Object, World, Happening, beginning, IsFirstState, LeadTo}
use Rattle.ct_step.specs.Entries.{tree_leaves}
use Rattle.ct_step.specs.Lines.{LineAttempt, IsHashedBySteps}
use Rattle.ct_step.specs.Steps.{IsLog, line_head}
use Rattle.ct_node.specs.Logs.{AreStepsMade, StandsOf, log_of_past}
use Rattle.ct_verify.specs.ConsistencyEvidence.{IsBeginning}

-- some node was given the command to have the head of a state signed and put, and this head is the one that the state's line names
abbrev pub IsAsked : (State → StateLine) → World → Head → Type 0
IsAsked line w head = (l : State) × Has (Heading l) w.sent × (head ≡ line_head (line l))

-- the newest of these heads, if there is one, is such a head
unfoldable pub NewestIsAsked : (State → StateLine) → World → List HeadStep → Type 0
NewestIsAsked line w [] = ⊤
NewestIsAsked line w (s ∷ []) = IsAsked line w s.head
NewestIsAsked line w (s ∷ t ∷ steps) = NewestIsAsked line w (t ∷ steps)

-- Take any heads that were let through one after the other, by any guards, of which the newest is one that these nodes ask for. Each of
-- them that has leaves is the head of the first entries of E, or two of the strings that are hashed collide. Nothing is assumed of the
-- other heads.
abbrev pub HeadsLetThroughAreOf : (List ℕ → List ℕ) → (State → StateLine) → List Tiled → World → Type 0
HeadsLetThroughAreOf H line E w =
    (last : Option Head) (steps : List HeadStep) → AreHeadSteps H last steps → NewestIsAsked line w steps
    → All (λ s. IsHeadOfFirst H (tree_leaves E) s.head) steps ⊎ CollideAmong H (IsHashedForHeads H last steps (tree_leaves E))

-- Whatever happens, let E be the log that the lock took, and let S contain the strings that nodes hashed when they made steps and resumed
-- them. Then everything in the stores belongs to E. Each head that guards let through and that has leaves belongs to E, too, if the newest
-- of these heads is one that a node asks for. The alternative is a collision of two strings that S contains, or that are hashed for the
-- log's lines. For the heads it may also be a collision of two strings that are hashed for these heads.
abbrev pub GuardedHeadsAreOfOneLog : Type 0
GuardedHeadsAreOfOneLog =
    (H : List ℕ → List ℕ) → ((x : List ℕ) → length (H x) ≡ 32) → (S : List (List ℕ)) (line : State → StateLine) (step : Made → LineAttempt)
    (plan : Object → List ℕ × List ℕ) (known : List Tiled)
    (count : State → ℕ) (b : State) (hs : List Happening) (w : World) → IsFirstState count b → LeadTo count (beginning b) hs w → IsLog H known (line b)
    → AreStepsMade H S line step count plan w.made → (E : List Tiled) → E ≡ log_of_past step known w.past
    → (IsBeginning known E × StandsOf H line step b plan E w × HeadsLetThroughAreOf H line E w) ⊎ CollideAmong H (IsHashedBySteps H S E)
