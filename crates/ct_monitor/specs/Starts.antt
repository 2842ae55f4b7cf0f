-- A monitor that begins at a trusted head. H is any hash function on byte lists. The library's is SHA-256.
use Rattle.std.specs.Prelude.{◌≡◌, ◌⊎◌, ◌++◌, ⊤, ℕ, List, [], ◌∷◌, Contains, length, map, count_ones, Some, None}
use Rattle.ct_tree.specs.Peaks.{peaks, root_of_peaks}
use Rattle.ct_tree.specs.Tree.{hash_leaf}
use Rattle.ct_tree.specs.declared.head.Head.{Head}
use Rattle.ct_verify.specs.Hashed.{CollideAmong}
use Rattle.ct_monitor.specs.Heads.{IsHeadOfAll}
use Rattle.ct_monitor.specs.Watched.{Watched}
use Rattle.ct_monitor.specs.WatcherState.{WatcherState}
use Rattle.ct_monitor.specs.CallLaws.{MonitorCall, AreCalls, CallsHandOut}
use Rattle.ct_monitor.specs.StateText.{IsInBytes, IsMonitorState, monitor_state_text}
use Rattle.ct_monitor.specs.declared.starting.StartFault.{StartFault}
use Rattle.ct_monitor.specs.declared.starting.StartFault.TheVariants.{OtherCount, OtherRoot, Memory}

-- the state that has accepted this head, whose leaves have these perfect subtrees, and has read no more leaves
abbrev pub start_state : Head → List (List ℕ) → WatcherState
start_state head subtrees = record {
  accepted = Some head;
  waiting = None;
  newest = record { accepted = head.timestamp; waiting = 0 };
  sure = (head.tree_size, subtrees);
  all = (head.tree_size, subtrees);
}

-- the bytes encode this state; there are as many subtrees as a tree of the head's size has, and they lead to the head's root
pub record IsMonitorStart (H : List ℕ → List ℕ) (head : Head) (subtrees : List (List ℕ)) (bytes : List ℕ) : Type 0 where
  pub numbers : IsInBytes (start_state head subtrees)
  pub count : length subtrees ≡ count_ones head.tree_size
  pub root : head.root ≡ root_of_peaks H subtrees
  pub text : bytes ≡ monitor_state_text H (start_state head subtrees)

-- the reason why no state begins at this head with these subtrees: their number, or the root to which they lead; or memory could not be
-- allocated
abbrev pub RefusesStart : (List ℕ → List ℕ) → StartFault → Head → List (List ℕ) → Type 0
RefusesStart H OtherCount head subtrees = length subtrees ≡ count_ones head.tree_size → ⊥
RefusesStart H OtherRoot head subtrees = (length subtrees ≡ count_ones head.tree_size) × (head.root ≡ root_of_peaks H subtrees → ⊥)
RefusesStart H Memory head subtrees = ⊤

-- a log has handed out this head and its leaves D, and nothing else
abbrev pub known_at_start : Head → List (List ℕ) → Watched
known_at_start head D =
    record { accepted = Some head; sure = D; waiting = None; ahead = []; newest = record { accepted = head.timestamp; waiting = 0 } }

-- the bytes of a start are a state, so they can be read again
abbrev pub StartsAreRead : Type 0
StartsAreRead =
    (H : List ℕ → List ℕ) (head : Head) (subtrees : List (List ℕ)) (bytes : List ℕ) → IsMonitorStart H head subtrees bytes
    → IsMonitorState H (start_state head subtrees) bytes

-- the strings that are hashed when subtrees are joined to one root: 01 || left || right of each node above them
unfoldable pub joining_strings : (List ℕ → List ℕ) → List (List ℕ) → List (List ℕ)
joining_strings H [] = []
joining_strings H (x ∷ []) = []
joining_strings H (x ∷ y ∷ rest) = (1 ∷ x ++ root_of_peaks H (y ∷ rest)) ∷ joining_strings H (y ∷ rest)

-- the strings that are hashed when these subtrees are joined, and when the subtrees of the leaves D are joined
abbrev pub IsHashedForStart : (List ℕ → List ℕ) → List (List ℕ) → List (List ℕ) → List ℕ → Type 0
IsHashedForStart H subtrees D s =
    Contains (joining_strings H subtrees) s ⊎ Contains (joining_strings H (peaks H (map (hash_leaf H) D))) s

-- Take any calls, each over the state that the previous one returned, the first over the state of a start. Let the trusted head be the head
-- of the leaves D. Then each accepted head is the head of a prefix of one list, which begins with D: the leaves that are accepted after the
-- last call. Or two strings collide that are hashed when the start's subtrees are joined, or when those of D are. The law says nothing
-- about a trusted head that is not the head of any leaves.
abbrev pub CallsAgreeFromStart : Type 0
CallsAgreeFromStart =
    (H : List ℕ → List ℕ) → ((x : List ℕ) → length (H x) ≡ 32) → (head : Head) (subtrees : List (List ℕ)) (first : List ℕ) (calls : List MonitorCall)
    → IsMonitorStart H head subtrees first → AreCalls H first calls → (D : List (List ℕ)) → IsHeadOfAll H D head
    → ((w : Watched) × (Y : List (List ℕ)) × (w.sure ≡ D ++ Y) × CallsHandOut H first calls (known_at_start head D) w)
    ⊎ CollideAmong H (IsHashedForStart H subtrees D)
