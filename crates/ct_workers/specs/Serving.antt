-- A party does a list of tasks, in turn.
use Rattle.std.specs.Prelude.{◌≡◌, ◌<◌, ℕ, List, ◌++◌, length}
use Rattle.std.specs.List.{flat_map}
use Rattle.ct_core.specs.Replies.{Answer}
use Rattle.ct_lines.specs.ReplyText.{reply_line}
use Rattle.ct_workers.specs.InTurn.{InTurn}

-- all tasks are done in turn, and their replies follow the text written before, in their order
abbrev pub ServesAll : {State Task : Type 0} → (State → Task → List ℕ → State → Type 0) → State → List Task → List ℕ → State → List ℕ → Type 0
ServesAll does a ts before b text = (rs : List (List ℕ)) × InTurn does a ts rs b × (text ≡ before ++ flat_map (λ r. r) rs)

-- Some first tasks are done in this way, and not all. Only the replies to them are written: then memory was refused.
abbrev pub ServesFirst : {State Task : Type 0} → (State → Task → List ℕ → State → Type 0) → State → List Task → List ℕ → List ℕ → Type 0
ServesFirst {State} {Task} does a ts before text =
    (done left : List Task) × (ts ≡ done ++ left) × (0 < length left) × ((b : State) × ServesAll does a done before b text)

-- a party does a task with an answer, continues, and replies with the line of the answer
pub record DoesWithLine {State Task : Type 0} (does : State → Task → Answer → State → Type 0) (goes_on : State → State → Type 0)
    (a : State) (task : Task) (reply : List ℕ) (b : State) : Type 0 where
  pub answer : Answer
  pub did : does a task answer b
  pub went_on : goes_on a b
  pub line : reply ≡ reply_line answer
