-- The plan as the code has it, and the steps that it assigns.
use Rattle.std.specs.Prelude.{◌≡◌, ◌<◌, ℕ, List, [], ◌∷◌, ◌++◌, length, map, All, slice_get, Bool, true, false, Option, Some, IfSome, Vec}
use Rattle.std.specs.Global.{Global}
use Rattle.std.specs.List.{AllZip, filter_map, flat_map}
use Rattle.std.specs.Io.BufRead.{first_piece, drop_through}
use Rattle.ct_lines.specs.Requests.{front_asked}
use Rattle.ct_lines.specs.declared.request.FrontRequest.{FrontRequest}
use Rattle.ct_lines.specs.Tasks.{PartyTask, Step, does, ends_shift, IsFrozenLine}
use Rattle.ct_lines.specs.Steps.{AllAskFor, AreWhole, front_parts, operator_parts, frozen_line}
use Rattle.ct_lines.specs.declared.plan.Shift.{Shift}
use Rattle.ct_lines.specs.declared.plan.Work.{Work}
use Rattle.ct_lines.specs.declared.plan.Plan.{Plan}

-- the work assigns these tasks of one shift to n fronts and to the operator, each in order
pub record IsWorkOf (n : ℕ) (w : Work) (ts : List PartyTask) : Type 0 where
  pub count : length w.fronts.items ≡ n
  pub fronts : (k : ℕ) (v : Vec FrontRequest Global) → slice_get w.fronts.items k ≡ Some v → map front_asked v.items ≡ front_parts k ts
  pub operator : w.operator.items ≡ operator_parts ts

-- the tasks of a shift, and the timestamp at which it ends
pub record ShiftTasks : Type 0 where
  pub tasks : List PartyTask
  pub now : ℕ

-- the shift's steps, the last of which ends it
abbrev pub shift_steps : ShiftTasks → List Step
shift_steps s = map does s.tasks ++ ends_shift s.now ∷ []

-- the shift assigns these tasks, and ends at this timestamp
abbrev pub IsShiftOf : ℕ → Shift → ShiftTasks → Type 0
IsShiftOf n s t = IsWorkOf n s.work t.tasks × (s.now ≡ t.now)

-- The shifts and the last work assign these steps to n fronts and to the operator. The steps are cut at each step that ends a shift: each
-- shift has the tasks before its end, and the last work has those after the last end.
pub record AreShiftsOf (n : ℕ) (shifts : List Shift) (last : Work) (ss : List Step) : Type 0 where
  pub ended : List ShiftTasks
  pub left : List PartyTask
  pub cut : ss ≡ flat_map shift_steps ended ++ map does left
  pub each : AllZip (IsShiftOf n) shifts ended
  pub rest : IsWorkOf n last left

-- each shift, and the last work, has a list of tasks for each of n fronts
abbrev pub AreForFronts : ℕ → List Shift → Work → Type 0
AreForFronts n shifts last = All (λ (s : Shift). length s.work.fronts.items ≡ n) shifts × (length last.fronts.items ≡ n)

-- the plan assigns these steps to n fronts, to the operator and to the frozen log
pub record IsPlanOf (n : ℕ) (p : Plan) (ss : List Step) : Type 0 where
  pub given : AreShiftsOf n p.shifts.items p.last ss
  pub frozen : AllZip IsFrozenLine p.frozen.items (filter_map frozen_line ss)

-- the step of the line was added to the plan, or none if the line is empty
abbrev pub GivesOut : ℕ → Plan → Plan → List ℕ → Type 0
GivesOut n p q line = (ss : List Step) → IsPlanOf n p ss → (more : List Step) × AllAskFor n (line ∷ []) more × IsPlanOf n q (ss ++ more)

-- the same, and a line that is added for the frozen log is not empty and contains no end byte
abbrev pub GivesOutWhole : ℕ → Plan → Plan → List ℕ → Type 0
GivesOutWhole n p q line =
    (ss : List Step) → IsPlanOf n p ss → (more : List Step) × AllAskFor n (line ∷ []) more × IsPlanOf n q (ss ++ more) × AreWhole more

-- the next line was read, and its step was added to the plan (false); or no line was left, and the plan is unchanged (true)
abbrev pub LineTaken : ℕ → Plan → Plan → Option (List ℕ) → Option (List ℕ) → Bool → Type 0
LineTaken n p q source source_next true = IfSome source (λ xs. xs ≡ []) × (q ≡ p)
LineTaken n p q source source_next false =
    (line : List ℕ) × GivesOutWhole n p q line × IfSome source (λ xs. (0 < length xs) × (line ≡ first_piece 10 xs) × (source_next ≡ Some (drop_through 10 xs)))
