-- The steps of the program for its lines.
use Rattle.std.specs.Prelude.{◌≡◌, ◌<◌, ◌⊎◌, ℕ, List, nat_lt, if◌then◌else◌}
use Rattle.ct_lines.specs.Asked.{Asked, by_front, by_operator, by_frozen, FrontAsked, OperatorAsked, sequence, publish, shutdown, shift, IsRequest}
use Rattle.ct_lines.specs.Requests.{front_asked, frozen_asked}
use Rattle.ct_lines.specs.declared.request.FrozenRequest.{FrozenRequest}
use Rattle.ct_lines.specs.declared.task.Task.{Task}
use Rattle.ct_lines.specs.declared.task.Task.TheVariants as task_case
use Rattle.ct_lines.specs.declared.task.OperatorTask.{OperatorTask}
use Rattle.ct_lines.specs.declared.task.OperatorTask.TheVariants.{Sequence, Publish, Shutdown, BadLine}

-- the front with this number serves the request, or the operator does the task, or the frozen log answers the line
pub data PartyTask : Type 0 where
  for_front : ℕ → FrontAsked → PartyTask
  for_operator : OperatorTask → PartyTask
  for_frozen : List ℕ → PartyTask

-- the step for a line: a task of a shift, or the end of the shift at this timestamp
pub data Step : Type 0 where
  does : PartyTask → Step
  ends_shift : ℕ → Step

-- the step for a request of a front, if there are `fronts` of them; an unknown front gets bad-line
abbrev pub front_step : ℕ → ℕ → FrontAsked → Step
front_step fronts n r = if nat_lt n fronts then does (for_front n r) else does (for_operator BadLine)

-- the step for a request of the operator; `sequence` of an unknown front gets bad-line
abbrev pub operator_step : ℕ → OperatorAsked → Step
operator_step fronts (sequence from count now) = if nat_lt from fronts then does (for_operator (Sequence from count now)) else does (for_operator BadLine)
operator_step fronts (publish now) = does (for_operator (Publish now))
operator_step fronts shutdown = does (for_operator Shutdown)
operator_step fronts (shift now) = ends_shift now

-- the step for the request in a line
abbrev pub step_of : ℕ → List ℕ → Asked → Step
step_of fronts line (by_front n r) = front_step fronts n r
step_of fronts line (by_operator r) = operator_step fronts r
step_of fronts line (by_frozen r) = does (for_frozen line)

-- if the step is a front's, that front exists
abbrev pub IsForThere : ℕ → Step → Type 0
IsForThere fronts (does (for_front n r)) = n < fronts
IsForThere fronts (does (for_operator t)) = Unit {0}
IsForThere fronts (does (for_frozen line)) = Unit {0}
IsForThere fronts (ends_shift now) = Unit {0}

-- the step is the one for the line; a line that is no request gets bad-line
abbrev pub AsksFor : ℕ → List ℕ → Step → Type 0
AsksFor fronts line s = ((a : Asked) × IsRequest line a × (s ≡ step_of fronts line a))
    ⊎ ((s ≡ does (for_operator BadLine)) × ((a : Asked) → IsRequest line a → ⊥))

-- the step of a task that was read from this line
abbrev pub step : List ℕ → Task → Step
step line (task_case.Front n t) = does (for_front n (front_asked t))
step line (task_case.Operator t) = does (for_operator t)
step line (task_case.Frozen r) = does (for_frozen line)
step line (task_case.EndsShift now) = ends_shift now

-- the line is this request of a reader of the frozen log
abbrev pub IsFrozenLine : FrozenRequest → List ℕ → Type 0
IsFrozenLine r line = IsRequest line (by_frozen (frozen_asked r))

-- if the task is for the frozen log, it is the request in the line
abbrev pub IsFrozenTask : List ℕ → Task → Type 0
IsFrozenTask line (task_case.Front n t) = Unit {0}
IsFrozenTask line (task_case.Operator t) = Unit {0}
IsFrozenTask line (task_case.Frozen r) = IsFrozenLine r line
IsFrozenTask line (task_case.EndsShift now) = Unit {0}

-- The task belongs to this line and has this step. If the step is a front's, that front exists.
pub record IsTaskFor (fronts : ℕ) (line : List ℕ) (s : Step) (t : Task) : Type 0 where
  pub asked : step line t ≡ s
  pub there : IsForThere fronts (step line t)
  pub frozen : IsFrozenTask line t
