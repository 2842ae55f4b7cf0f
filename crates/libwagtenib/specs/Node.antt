-- The commands of a node, as callers in C have them, and what a node finds when it starts.
use Rattle.std.specs.Prelude.{◌≡◌, ◌⊎◌, ◌/◌, ◌%◌, ◌==◌, ℕ, Bool, List, [], ◌∷◌, Option, Some, None, option_map, if◌then◌else◌}
use Rattle.ct_node.specs.LockText.{text_said, says_root}
use Rattle.ct_node.specs.declared.lock_reading.Said.{Said}
use Rattle.ct_node.specs.declared.state.State.{State}
use Rattle.ct_node.specs.declared.node.Node.{Node}
use Rattle.ct_node.specs.declared.node.Node.TheVariants.{Reading, Looking, Stepping, Staging, Swapping, Deleting, Putting, Placing, Heading, Answering}
use Rattle.ct_node.specs.declared.node.Outcome.{Outcome}
use Rattle.ct_node.specs.declared.node.Outcome.TheVariants.{Done, Lost, Read, Published, Bundle, Stepped, Listed}
use Rattle.ct_node.specs.Nodes.{after}
use Rattle.ct_node.specs.declared.starting.Point.{Point}
use Rattle.ct_node.specs.declared.starting.Other.{Other}
use Rattle.ct_node.specs.declared.starting.Found.{Found}
use Rattle.ct_node.specs.declared.starting.Beginning.{Beginning}
use Rattle.ct_node.specs.declared.starting.Beginning.TheVariants.{Goes, Creates, Gone, BehindSeen, BehindGuard, TwoRoots, GuardBehind, BehindListed, BehindPublished}
use Rattle.ct_node.specs.Starts.{started}
use Rattle.libwagtenib.specs.declared.head.TreeHead.{TreeHead}
use Rattle.libwagtenib.specs.declared.node.NodeState.{NodeState}
use Rattle.libwagtenib.specs.declared.node.NodeCommand.{NodeCommand}
use Rattle.libwagtenib.specs.declared.node.NodeOutcome.{NodeOutcome}
use Rattle.libwagtenib.specs.declared.node.NodeFound.{NodeFound}

-- the state that a caller hands in
abbrev pub state_of_c : NodeState → State
state_of_c s = record { moment = s.timestamp; before = s.previous_timestamp; salt = s.salt }

-- a state, as callers have it
abbrev pub c_of_state : State → NodeState
c_of_state s = record { timestamp = s.moment; previous_timestamp = s.before; salt = s.salt }

-- the command that a caller hands in, by its number; or nothing if no command has that number
abbrev pub node_of_c : NodeCommand → Option Node
node_of_c c =
    if c.command == 0 then Some Reading
    else (if c.command == 1 then Some (Looking (state_of_c c.seen))
    else (if c.command == 2 then Some (Stepping (state_of_c c.seen))
    else (if c.command == 3 then Some (Staging (state_of_c c.seen) (state_of_c c.next) c.objects)
    else (if c.command == 4 then Some (Swapping (state_of_c c.seen) (state_of_c c.next) c.objects)
    else (if c.command == 5 then Some (Deleting (state_of_c c.seen) (state_of_c c.next))
    else (if c.command == 6 then Some (Putting (state_of_c c.next) c.objects)
    else (if c.command == 7 then Some (Placing (state_of_c c.next))
    else (if c.command == 8 then Some (Heading (state_of_c c.next))
    else (if c.command == 9 then Some (Answering (state_of_c c.next)) else None)))))))))

-- the state that a command is not about
abbrev pub no_state : State
no_state = record { moment = 0; before = 0; salt = 0 }

-- a command with these states and this number of objects
abbrev pub c_with : ℕ → State → State → ℕ → NodeCommand
c_with command seen next objects = record { seen = c_of_state seen; next = c_of_state next; objects = objects; command = command }

-- a command, as callers have it
abbrev pub c_of_node : Node → NodeCommand
c_of_node Reading = c_with 0 no_state no_state 0
c_of_node (Looking k) = c_with 1 k no_state 0
c_of_node (Stepping k) = c_with 2 k no_state 0
c_of_node (Staging k l n) = c_with 3 k l n
c_of_node (Swapping k l n) = c_with 4 k l n
c_of_node (Deleting k l) = c_with 5 k l 0
c_of_node (Putting l n) = c_with 6 no_state l n
c_of_node (Placing l) = c_with 7 no_state l 0
c_of_node (Heading l) = c_with 8 no_state l 0
c_of_node (Answering l) = c_with 9 no_state l 0

-- the outcome that a caller hands in, by its number; or nothing if no outcome has that number
abbrev pub outcome_of_c : NodeOutcome → Option Outcome
outcome_of_c o =
    if o.outcome == 0 then Some Done
    else (if o.outcome == 1 then Some Lost
    else (if o.outcome == 2 then Some (Read (state_of_c o.state))
    else (if o.outcome == 3 then Some Published
    else (if o.outcome == 4 then Some (Bundle o.objects)
    else (if o.outcome == 5 then Some (Stepped (state_of_c o.state) o.objects)
    else (if o.outcome == 6 then Some (Listed (state_of_c o.state)) else None))))))

-- 0: the command that follows is written. 112: the command's number is none. 113: the outcome's number is none. Nothing is written but at 0.
abbrev pub GivesNext : ℕ → NodeCommand → NodeOutcome → NodeCommand → NodeCommand → Type 0
GivesNext code c o before next =
    ((code ≡ 0)
    × ((n : Node) × (x : Outcome) × (node_of_c c ≡ Some n) × (outcome_of_c o ≡ Some x) × (next ≡ c_of_node (after n x))))
    ⊎ (((code ≡ 112) × (node_of_c c ≡ None) × (next ≡ before))
    ⊎ ((code ≡ 113) × ((n : Node) × (node_of_c c ≡ Some n)) × (outcome_of_c o ≡ None) × (next ≡ before)))

-- whether a flag is set
abbrev pub has_flag : ℕ → ℕ → Bool
has_flag flags flag = flags / flag % 2 == 1

-- a head beside a lock's text, if the flag is set
abbrev pub other_of_c : List ℕ → ℕ → ℕ → TreeHead → Option Other
other_of_c lock flags flag h =
    if has_flag flags flag
    then Some (record { at = record { size = h.tree_size; moment = h.timestamp }; same = says_root lock h.root })
    else None

-- the facts that a node finds, if the lock has this head; the flags are 1 if the machine saw a head, 2 if a head was signed, 4 if one is published, 8 if the store lists one, 16 if a
-- guard decides what is signed, 32 if the store has an object of a log, 64 if the operator asks for a new log, 128 if the lock exists
abbrev pub found_of_c : List ℕ → Option Point → NodeFound → Found
found_of_c lock head f =
    record {
      register = head;
      seen = other_of_c lock f.flags 1 f.seen;
      published = other_of_c lock f.flags 4 f.published;
      listed = other_of_c lock f.flags 8 f.listed;
      guarded = has_flag f.flags 16;
      guard = other_of_c lock f.flags 2 f.signed_head;
      stands = has_flag f.flags 32;
      creates = has_flag f.flags 64;
    }

-- the number of the action of a node when it starts
abbrev pub start_code : Beginning → ℕ
start_code Goes = 0
start_code Creates = 116
start_code Gone = 117
start_code BehindSeen = 118
start_code BehindGuard = 119
start_code TwoRoots = 120
start_code GuardBehind = 121
start_code BehindListed = 122
start_code BehindPublished = 123

-- the head of what a lock's text says
abbrev pub point_said : Said → Point
point_said s = record { size = s.size; moment = s.state.moment }

-- the head of a lock's text; no head of no bytes, unless the flags say that the lock exists; or nothing if the bytes are no lock's text
abbrev pub lock_of : ℕ → List ℕ → Option (Option Point)
lock_of flags [] = if has_flag flags 128 then None else Some None
lock_of flags (b ∷ bs) = option_map (λ s. Some (point_said s)) (text_said (b ∷ bs))

-- 114: the bytes are no lock's text. Otherwise the number of what a node does that finds this.
abbrev pub StartsNode : ℕ → List ℕ → NodeFound → Type 0
StartsNode code lock f =
    ((code ≡ 114) × (lock_of f.flags lock ≡ None))
    ⊎ ((head : Option Point) × (lock_of f.flags lock ≡ Some head) × (code ≡ start_code (started (found_of_c lock head f))))
