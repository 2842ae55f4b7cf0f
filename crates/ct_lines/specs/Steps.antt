-- The steps of each party for the lines of an input, shift by shift.
use Rattle.std.specs.Prelude.{◌≢◌, ◌<◌, ℕ, List, [], ◌∷◌, ◌++◌, length, Option, Some, None, IfSome, nat_eq, if◌then◌else◌}
use Rattle.std.specs.List.{AllByRecursion, filter_map, flat_map}
use Rattle.ct_lines.specs.Asked.{FrontAsked}
use Rattle.json_lines.specs.Lines.{lines_of}
use Rattle.ct_lines.specs.Tasks.{PartyTask, for_front, for_operator, for_frozen, Step, does, ends_shift, AsksFor}
use Rattle.ct_lines.specs.declared.task.OperatorTask.{OperatorTask}

-- the steps are those of the lines, in order; an empty line has none
abbrev pub AllAskFor : ℕ → List (List ℕ) → List Step → Type 0
AllAskFor fronts [] [] = Unit {0}
AllAskFor fronts [] (s ∷ ss) = ⊥
AllAskFor fronts ([] ∷ lines) ss = AllAskFor fronts lines ss
AllAskFor fronts ((b ∷ bs) ∷ lines) [] = ⊥
AllAskFor fronts ((b ∷ bs) ∷ lines) (s ∷ ss) = AsksFor fronts (b ∷ bs) s × AllAskFor fronts lines ss

-- the steps are those of an input for n fronts, if its bytes are known
abbrev pub AreStepsOf : ℕ → Option (List ℕ) → List Step → Type 0
AreStepsOf n input ss = IfSome input (λ bytes. AllAskFor n (lines_of bytes) ss)

-- the front k's part of a task
abbrev pub front_part : ℕ → PartyTask → Option FrontAsked
front_part k (for_front n r) = if nat_eq n k then Some r else None
front_part k (for_operator t) = None
front_part k (for_frozen line) = None

-- the operator's part of a task
abbrev pub operator_part : PartyTask → Option OperatorTask
operator_part (for_front n r) = None
operator_part (for_operator t) = Some t
operator_part (for_frozen line) = None

-- the closed log's line of a step, with its end byte, or nothing if the step has none
abbrev pub frozen_part : Step → List ℕ
frozen_part (does (for_front n r)) = []
frozen_part (does (for_operator t)) = []
frozen_part (does (for_frozen line)) = line ++ 10 ∷ []
frozen_part (ends_shift now) = []

-- the line of a step that the closed log answers, if there is one
abbrev pub frozen_line : Step → Option (List ℕ)
frozen_line (does (for_front n r)) = None
frozen_line (does (for_operator t)) = None
frozen_line (does (for_frozen line)) = Some line
frozen_line (ends_shift now) = None

-- a line that is not empty and contains no end byte
abbrev pub IsWholeLine : List ℕ → Type 0
IsWholeLine line = (0 < length line) × AllByRecursion (λ b. b ≢ 10) line

-- each line that the closed log answers is a whole line
abbrev pub AreWhole : List Step → Type 0
AreWhole ss = AllByRecursion IsWholeLine (filter_map frozen_line ss)

-- the requests that front k serves in a shift, in order
abbrev pub front_parts : ℕ → List PartyTask → List FrontAsked
front_parts k ts = filter_map (front_part k) ts

-- the tasks that the operator does in a shift, in order
abbrev pub operator_parts : List PartyTask → List OperatorTask
operator_parts ts = filter_map operator_part ts

-- the lines of all shifts that the closed log answers, in order
abbrev pub frozen_lines : List Step → List ℕ
frozen_lines ss = flat_map frozen_part ss
