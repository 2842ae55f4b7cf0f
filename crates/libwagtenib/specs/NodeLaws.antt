-- The laws of calls of `wagtenib_node_next` and `wagtenib_node_start`, whichever processes make them. H is any hash function on byte lists.
use Rattle.std.specs.Prelude.{◌≡◌, ◌↔◌, ◌⊎◌, ⊤, ℕ, ◌<◌, List, [], ◌∷◌, length, take, Some}
use Rattle.std.specs.List.{AllZip}
use Rattle.ct_data_tiles.specs.TileLeaf.{Tiled}
use Rattle.ct_step.specs.Identities.{AreNewFrom}
use Rattle.ct_node.specs.LockText.{text_state}
use Rattle.ct_step.specs.StateLines.{state_line_text}
use Rattle.ct_step.specs.declared.line.StateLine.{StateLine}
use Rattle.ct_node.specs.declared.state.State.{State}
use Rattle.ct_node.specs.declared.node.Node.{Node}
use Rattle.ct_node.specs.declared.node.Node.TheVariants.{Reading, Looking, Stepping, Staging, Swapping, Deleting, Putting, Placing, Heading, Answering}
use Rattle.ct_node.specs.declared.node.Outcome.{Outcome}
use Rattle.ct_node.specs.declared.node.Outcome.TheVariants.{Done, Lost, Read, Published, Bundle, Stepped, Listed}
use Rattle.ct_node.specs.declared.starting.Point.{Point}
use Rattle.ct_node.specs.LookUps.{LooksUp}
use Rattle.ct_node.specs.Nodes.{after}
use Rattle.ct_node.specs.Starts.{NoneIsAhead}
use Rattle.ct_node.specs.Worlds.{Has, Made, Object, World, Happening, Told, happens, beginning, MayHappen, MayBeTold, IsFirstState}
use Rattle.ct_node.specs.Logs.{IsOf, AreStepsMade, StandsOf, log_of_past}
use Rattle.ct_node.specs.Once.{entry_identities, AreStepsAdding}
use Rattle.ct_node.specs.Whole.{AreAllPut, HasAllObjects}
use Rattle.ct_step.specs.Lines.{LineAttempt, IsHashedBySteps}
use Rattle.ct_step.specs.declared.step.Step.{Step}
use Rattle.ct_step.specs.StepAnswers.{IsReplyTo}
use Rattle.ct_step.specs.StepAsks.{for_step, for_resume}
use Rattle.ct_step.specs.StepRepeats.{BatchEntry}
use Rattle.ct_step.specs.StepReplies.{stepped_text, resumed_text}
use Rattle.ct_step.specs.StepWords.{Reference, steps, rolls_out}
use Rattle.ct_step.specs.Steps.{IsLog}
use Rattle.ct_verify.specs.Hashed.{CollideAmong}
use Rattle.libwagtenib.specs.declared.node.NodeCommand.{NodeCommand}
use Rattle.libwagtenib.specs.declared.node.NodeOutcome.{NodeOutcome}
use Rattle.libwagtenib.specs.declared.node.NodeFound.{NodeFound}
use Rattle.libwagtenib.specs.declared.node.NodeState.{NodeState}
use Rattle.libwagtenib.specs.Lock.{ReadsLockText}
use Rattle.libwagtenib.specs.Node.{node_of_c, c_of_node, c_of_state, outcome_of_c, GivesNext, found_of_c, lock_of, StartsNode}
use Rattle.ct_verify.specs.ConsistencyEvidence.{IsBeginning}

-- A world, and the commands that calls gave, the newest first.
pub record CallsWorld : Type 0 where
  pub world : World
  pub given : List NodeCommand

-- a log that begins with the state b: there is the command to read the lock
abbrev pub calls_beginning : State → CallsWorld
calls_beginning b = record { world = beginning b; given = c_of_node Reading ∷ [] }

-- A call returned 0: its command, which is that of a node; the outcome that was handed in; and what the call wrote over what the caller's memory had.
pub record NextCall : Type 0 where
  pub command : NodeCommand
  pub told : NodeOutcome
  pub node : Node
  pub outcome : Outcome
  pub before : NodeCommand
  pub next : NodeCommand
  pub is_node : node_of_c command ≡ Some node
  pub is_outcome : outcome_of_c told ≡ Some outcome
  pub returned : GivesNext 0 command told before next

-- What may happen. Beside: a happening of ct_node that is no call. Called: a call that returned 0, of a command that an earlier call gave, or the first one. A call
-- that never came back gives nothing.
pub data CallHappening : Type 0 where
  Beside : Happening → CallHappening
  Called : NextCall → CallHappening

-- no node gets an outcome
abbrev pub IsNoTelling : Happening → Type 0
IsNoTelling (Told s o) = ⊥
IsNoTelling h = ⊤

-- the world after it: the command that the call wrote is among those that were given
abbrev pub happens_by_calls : CallsWorld → CallHappening → CallsWorld
happens_by_calls w (Beside h) = record w { world = happens w.world h }
happens_by_calls w (Called c) = record { world = happens w.world (Told c.node c.outcome); given = c.next ∷ w.given }

-- the duties of an honest lock and store, as ct_node has them: no node gets an outcome that is false
abbrev pub MayHappenByCalls : (State → ℕ) → CallsWorld → CallHappening → Type 0
MayHappenByCalls count w (Beside h) = IsNoTelling h × MayHappen count w.world h
MayHappenByCalls count w (Called c) = Has c.command w.given × MayBeTold count w.world c.node c.outcome

-- these happened, one after the other, and led from the one world to the other
unfoldable pub LeadToByCalls : (State → ℕ) → CallsWorld → List CallHappening → CallsWorld → Type 0
LeadToByCalls count w [] v = w ≡ v
LeadToByCalls count w (h ∷ hs) v = MayHappenByCalls count w h × LeadToByCalls count (happens_by_calls w h) hs v

-- a call gave a command, and it is this node's
abbrev pub GivesNode : CallsWorld → Node → Type 0
GivesNode w n = (c : NodeCommand) × Has c w.given × (node_of_c c ≡ Some n)

-- The command that a call writes is that of ct_node's next node. So whatever becomes of commands by calls is a history of ct_node's nodes: each command that a call
-- gave is one that a node of the world gave.
abbrev pub CallsAreHistories : Type 0
CallsAreHistories =
    (count : State → ℕ) (b : State) (hs : List CallHappening) (w : CallsWorld) → LeadToByCalls count (calls_beginning b) hs w → (n : Node)
    → GivesNode w n → Has n w.world.sent

-- The command that a call wrote is read again: it is that of ct_node's next node.
abbrev pub CommandsAreRead : Type 0
CommandsAreRead = (c : NextCall) → node_of_c c.next ≡ Some (after c.node c.outcome)

-- these commands are those of these nodes, one by one
abbrev pub AreCommandsOf : List NodeCommand → List Node → Type 0
AreCommandsOf given sent = AllZip (λ c n. node_of_c c ≡ Some n) given sent

-- Nothing is asked of the lock, of the store or of the outcomes. If the commands that calls gave are those that the nodes of a world gave, then a call over one of
-- them is over a command of one of these nodes, and it gives what that node gives next.
abbrev pub CallsAreTold : Type 0
CallsAreTold =
    (w : World) (given : List NodeCommand) (c : NextCall) → AreCommandsOf given w.sent → Has c.command given
    → Has c.node w.sent × AreCommandsOf (c.next ∷ given) (happens w (Told c.node c.outcome)).sent

-- Calls with any outcomes, one after the other. Each is over a command that an earlier one wrote, or that was given before. All commands that are given in the end.
unfoldable pub GiveCommands : List NodeCommand → List NextCall → List NodeCommand → Type 0
GiveCommands given [] all = given ≡ all
GiveCommands given (c ∷ calls) all = Has c.command given × GiveCommands (c.next ∷ given) calls all

-- the text is that of this state, and begins with the line of the state
abbrev pub IsKeptText : (State → StateLine) → State → List ℕ → Type 0
IsKeptText line k text = (text_state text ≡ Some k) × (take 295 text ≡ state_line_text (line k))

-- a caller read the text: `wagtenib_lock_state` returned 0 for it, and wrote this state; and the text begins with the line of the state
abbrev pub IsReadText : (State → StateLine) → State → List ℕ → Type 0
IsReadText line k text =
    ((before : NodeState) × (size_before : ℕ) × (size : ℕ) × ReadsLockText 0 text before (c_of_state k) size_before size)
    × (take 295 text ≡ state_line_text (line k))

-- The bytes are the reply of a step whose new line is this one, and the reply has these objects: what CallsMakeSteps says of a call of `wagtenib_step` that returned 0.
abbrev pub IsStepWith : StateLine → List ℕ → List Reference → Type 0
IsStepWith line reply objects =
    (B : List BatchEntry) × (C : List (List ℕ)) × (state : List ℕ) × (now : ℕ) × (ahead : ℕ) × (origin : List ℕ) × (s : Step) × (places : List ℕ)
    × IsReplyTo (for_step B C now state ahead) (steps s places objects) × (reply ≡ stepped_text origin s places objects) × (s.line ≡ line)

-- The bytes are the reply for the step that made this line, and the reply has these objects: what CallsResumeSteps says of a call of `wagtenib_step_resume` that
-- returned 0.
abbrev pub IsResumedWith : StateLine → List ℕ → List Reference → Type 0
IsResumedWith line reply objects =
    (bundle : List ℕ) × (state : List ℕ) × (origin : List ℕ) × IsReplyTo (for_resume bundle state) (rolls_out line objects) × (reply ≡ resumed_text origin line objects)

-- a caller counted the objects in the reply of a step by which the log came to this line
abbrev pub CountsObjects : StateLine → List ℕ → List Reference → ℕ → Type 0
CountsObjects line reply objects n = (IsStepWith line reply objects ⊎ IsResumedWith line reply objects) × (length objects ≡ n)

-- Q holds for the state whose staged batch a node reads, and a number of objects
abbrev pub BatchHas : (State → ℕ → Type 0) → Node → ℕ → Type 0
BatchHas Q (Looking k) n = Q k n
BatchHas Q s n = ⊤

-- what an outcome tells a node: T holds for the state that the lock held, or to which a step led, and Q for a state and the number of objects of its staged batch
abbrev pub TellsOf : (State → Type 0) → (State → ℕ → Type 0) → Node → Outcome → Type 0
TellsOf T Q s Done = ⊤
TellsOf T Q s Lost = ⊤
TellsOf T Q s (Read k) = T k
TellsOf T Q s Published = ⊤
TellsOf T Q s (Bundle n) = BatchHas Q s n
TellsOf T Q s (Stepped l n) = T l × Q l n
TellsOf T Q s (Listed l) = ⊤

-- T holds for each state that a node must know by its text, and Q for the number of objects of its staged batch
abbrev pub NeedsOf : (State → Type 0) → (State → ℕ → Type 0) → Node → Type 0
NeedsOf T Q Reading = ⊤
NeedsOf T Q (Looking k) = T k
NeedsOf T Q (Stepping k) = T k
NeedsOf T Q (Staging k l n) = T k × T l × Q l n
NeedsOf T Q (Swapping k l n) = T k × T l × Q l n
NeedsOf T Q (Deleting k l) = T k
NeedsOf T Q (Putting l n) = T l × Q l n
NeedsOf T Q (Placing l) = T l
NeedsOf T Q (Heading l) = T l
NeedsOf T Q (Answering l) = T l

-- a caller knows the number of objects of a state: the log's first state b has none, and of another state they are those in the reply
abbrev pub KnowsObjects : State → (State → StateLine) → (State → List ℕ) → (State → List Reference) → State → ℕ → Type 0
KnowsObjects b line reply objects k n = ((k ≡ b) × (n ≡ 0)) ⊎ CountsObjects (line k) (reply k) (objects k) n

-- Nothing is asked of the lock or of the store. Suppose that a caller takes each state that an outcome names from a text that `wagtenib_lock_state` read, and keeps the
-- text by the state. Then for each command that a call gives, it has texts that are those of the command's states and begin with their lines.
abbrev pub CommandsHaveTexts : Type 0
CommandsHaveTexts =
    (line : State → StateLine) (text : State → List ℕ) (calls : List NextCall) (all : List NodeCommand) → GiveCommands (c_of_node Reading ∷ []) calls all
    → ((c : NextCall) → Has c calls → TellsOf (λ k. IsReadText line k (text k)) (λ k n. ⊤) c.node c.outcome)
    → (c : NodeCommand) (n : Node) → Has c all → node_of_c c ≡ Some n → NeedsOf (λ k. IsKeptText line k (text k)) (λ k n. ⊤) n

-- Likewise, suppose that it takes each number of objects that an outcome names from the reply of a step to the state's line, or that the state is the log's first one
-- and the number is 0, and keeps the reply by the state. Then for each command that a call gives, it has a reply to the line of the new state with as many objects as
-- the command says, or the state is the first one and the command says 0.
abbrev pub CommandsHaveObjects : Type 0
CommandsHaveObjects =
    (b : State) (line : State → StateLine) (reply : State → List ℕ) (objects : State → List Reference) (calls : List NextCall) (all : List NodeCommand)
    → GiveCommands (c_of_node Reading ∷ []) calls all
    → ((c : NextCall) → Has c calls → TellsOf (λ k. ⊤) (λ k n. KnowsObjects b line reply objects k n) c.node c.outcome)
    → (c : NodeCommand) (n : Node) → Has c all → node_of_c c ≡ Some n → NeedsOf (λ k. ⊤) (λ k n. KnowsObjects b line reply objects k n) n

-- If a call says to answer the submissions of a state, the head of that state is in the store, and its step is of the entries E: the receipt at an index is that
-- of the submission at this index of the step's batch.
abbrev pub AnswersAreOf : (List ℕ → List ℕ) → (State → StateLine) → (Made → LineAttempt) → State → List Tiled → CallsWorld → Type 0
AnswersAreOf H line step b E w =
    (l : State) → GivesNode w (Answering l) → Has l w.world.heads × IsOf H line step w.world.made b E l

-- Whatever happens by calls, let E be the log that the lock took: the entries that were known, and after them those that each step added by which it came to its
-- next state. Let S have the strings that nodes hashed when they made steps and resumed them. All that is in the stores is of E, and all answers are; or two
-- strings collide that S has, or that are hashed for the log's lines.
abbrev pub CallsWriteOneLog : Type 0
CallsWriteOneLog =
    (H : List ℕ → List ℕ) (S : List (List ℕ)) (line : State → StateLine) (step : Made → LineAttempt) (plan : Object → List ℕ × List ℕ) (known : List Tiled)
    (count : State → ℕ) (b : State)
    (hs : List CallHappening) (w : CallsWorld) → IsFirstState count b → LeadToByCalls count (calls_beginning b) hs w → IsLog H known (line b)
    → AreStepsMade H S line step count plan w.world.made → (E : List Tiled) → E ≡ log_of_past step known w.world.past
    → (IsBeginning known E × StandsOf H line step b plan E w.world × AnswersAreOf H line step b E w) ⊎ CollideAmong H (IsHashedBySteps H S E)

-- Whatever happens by calls, if the number of objects that calls are handed for a staged batch is the number of objects in it, then each object of the step of a
-- published head is in the store; or two strings collide that S has, or that are hashed for the log's lines.
abbrev pub CallsPutAll : Type 0
CallsPutAll =
    (H : List ℕ → List ℕ) (S : List (List ℕ)) (line : State → StateLine) (step : Made → LineAttempt) (plan : Object → List ℕ × List ℕ) (known : List Tiled)
    (count : State → ℕ) (b : State)
    (hs : List CallHappening) (w : CallsWorld) → IsFirstState count b → LeadToByCalls count (calls_beginning b) hs w → IsLog H known (line b)
    → AreStepsMade H S line step count plan w.world.made → ((m : Made) → Has m w.world.made → AreAllPut H S line count plan m.new) → (l : State) → Has l w.world.heads
    → HasAllObjects H step b plan (log_of_past step known w.world.past) w.world l ⊎ CollideAmong H (IsHashedBySteps H S (log_of_past step known w.world.past))

-- Any two objects that calls say to put, and that have the same name, have the same content; or two strings collide that S has (the strings that nodes hashed when
-- they made steps and resumed them), or that are hashed for the log's lines.
abbrev pub CallsNameOneContent : Type 0
CallsNameOneContent =
    (H : List ℕ → List ℕ) (S : List (List ℕ)) (line : State → StateLine) (step : Made → LineAttempt) (plan : Object → List ℕ × List ℕ) (known : List Tiled)
    (count : State → ℕ) (b : State)
    (hs : List CallHappening) (w : CallsWorld) → IsFirstState count b → LeadToByCalls count (calls_beginning b) hs w → IsLog H known (line b)
    → AreStepsMade H S line step count plan w.world.made → (l m : State) (n c i j : ℕ) → GivesNode w (Putting l n) → GivesNode w (Putting m c) → i < n → j < c
    → (plan (record { state = l; index = i })).0 ≡ (plan (record { state = m; index = j })).0
    → ((plan (record { state = l; index = i })).1 ≡ (plan (record { state = m; index = j })).1)
    ⊎ CollideAmong H (IsHashedBySteps H S (log_of_past step known w.world.past))

-- a step is made only after its submissions were looked up
abbrev pub LooksUpByCalls : (State → List (List ℕ)) → CallsWorld → CallHappening → Type 0
LooksUpByCalls ids w (Beside h) = LooksUp ids w.world h
LooksUpByCalls ids w (Called c) = ⊤

-- each step on the way is
unfoldable pub AllLookUpByCalls : (State → List (List ℕ)) → CallsWorld → List CallHappening → Type 0
AllLookUpByCalls ids w [] = ⊤
AllLookUpByCalls ids w (h ∷ hs) = LooksUpByCalls ids w h × AllLookUpByCalls ids (happens_by_calls w h) hs

-- Whatever happens by calls, let E be the log that the lock took, and let S have the strings that nodes hashed when they made steps. If each step was looked up
-- before and no place is missing, the lock's line is that of E, E begins with the entries that were known, and it has no identity of these, and none twice, after
-- them; or two strings collide that S has, or that are hashed for the log's lines.
abbrev pub CallsAddOnce : Type 0
CallsAddOnce =
    (H : List ℕ → List ℕ) (S : List (List ℕ)) (line : State → StateLine) (step : Made → LineAttempt) (ids : State → List (List ℕ)) (known : List Tiled)
    (count : State → ℕ) (b : State)
    (hs : List CallHappening) (w : CallsWorld) → IsFirstState count b → LeadToByCalls count (calls_beginning b) hs w → IsLog H known (line b)
    → (ids b ≡ entry_identities known) → AreStepsAdding H S line step ids w.world.made → AllLookUpByCalls ids (calls_beginning b) hs
    → (E : List Tiled) → E ≡ log_of_past step known w.world.past
    → (IsLog H E (line w.world.held) × IsBeginning known E × AreNewFrom (length known) (entry_identities E)) ⊎ CollideAmong H (IsHashedBySteps H S E)

-- A call returns 0 over a lock's text exactly if no head that the node finds is ahead of the text's.
abbrev pub CallsStartBehindNone : Type 0
CallsStartBehindNone =
    (code : ℕ) (lock : List ℕ) (p : Point) (f : NodeFound) → lock_of f.flags lock ≡ Some (Some p) → StartsNode code lock f
    → ((code ≡ 0) ↔ NoneIsAhead (found_of_c lock (Some p) f) p)
