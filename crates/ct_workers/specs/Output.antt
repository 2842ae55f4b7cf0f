-- The output for an input.
use Rattle.std.specs.Prelude.{◌≡◌, ◌⊎◌, ℕ, List, [], ◌∷◌, ◌++◌, Option}
use Rattle.std.specs.List.{AllByRecursion, AllZip, flat_map}
use Rattle.std.specs.Io.KnownBytes.{Appends}
use Rattle.ct_core.specs.Core.{Begins}
use Rattle.ct_core.specs.Settlement.{Log}
use Rattle.ct_house.specs.House.{FrontView, HouseState, IsNewHouse}
use Rattle.ct_lines.specs.Frozen.{frozen_answer, frozen_replies, frozen_text}
use Rattle.ct_lines.specs.ReplyText.{reply_line}
use Rattle.ct_lines.specs.Requests.{frozen_asked}
use Rattle.ct_lines.specs.declared.request.FrozenRequest.{FrozenRequest}
use Rattle.ct_lines.specs.Serving.{IsCutOff}
use Rattle.ct_lines.specs.declared.run_fault.Fault.{Fault}
use Rattle.ct_lines.specs.declared.run_fault.Fault.TheVariants.{Memory, Read, Write}
use Rattle.ct_lines.specs.declared.plan.Shift.{Shift}
use Rattle.ct_lines.specs.declared.plan.Work.{Work}
use Rattle.ct_workers.specs.ClosedLog.{Closes, IsClosingFault}
use Rattle.ct_lines.specs.Tasks.{Step}
use Rattle.ct_lines.specs.Steps.{AreStepsOf, IsWholeLine, frozen_lines}
use Rattle.ct_lines.specs.Plans.{AreShiftsOf}
use Rattle.ct_lines.specs.Tasks.{IsFrozenLine}
use Rattle.ct_workers.specs.Parties.{Parties, IsPartyFault, all_replies, fronts_of}
use Rattle.ct_workers.specs.Shifts.{IsShiftFault, PartiesServe}
use Rattle.json_lines.specs.Sends.{SendsSome}

-- the parties of a new house with n fronts and rings of this capacity, opened at this timestamp: no party has replied to anything
pub record AreNewParties (n places open_at : ℕ) (start : Parties) : Type 0 where
  pub fresh : IsNewHouse start.house (fronts_of start.fronts) n places open_at
  pub silent : all_replies start ≡ []

-- the log is the result of closing this sequencer and these fronts at this timestamp
pub record IsClosed (sequencer : HouseState) (after : List FrontView) (close_at : ℕ) (log : Log) : Type 0 where
  pub accepted : ℕ
  pub closes : Closes sequencer after close_at (record { log = log; accepted = accepted })

-- Some of the closed log's replies to these lines. Either all of them are written, or replies to a prefix of the lines: k whole ones, and
-- at most a proper prefix of the next.
abbrev pub SomeReplies : Log → List ℕ → List ℕ → Type 0
SomeReplies log lines written =
    (written ≡ frozen_text log lines) ⊎ ((read : List ℕ) × (k : ℕ) × Begins read lines × IsCutOff (frozen_replies log read) written k)

-- the bytes are lines that are these requests to the frozen log, in order: each line has its end byte, and none is empty
abbrev pub AreFrozenLines : List FrozenRequest → List ℕ → Type 0
AreFrozenLines requests bytes =
    (lines : List (List ℕ)) × AllZip IsFrozenLine requests lines × AllByRecursion IsWholeLine lines × (bytes ≡ flat_map (λ line. line ++ 10 ∷ []) lines)

-- the closed log's reply to a request
abbrev pub request_reply : Log → FrozenRequest → List ℕ
request_reply log r = reply_line (frozen_answer log (frozen_asked r))

-- a fault that is possible while the closed log answers requests
abbrev pub IsFrozenFault : Fault → Type 0
IsFrozenFault f = (f ≡ Write) ⊎ (f ≡ Memory)

-- All replies were written. The parties did their tasks, shift after shift, in any order between them within a shift. This led to this
-- sequencer and these fronts, and the text is that of their replies. Then the log was closed, and its replies were written.
pub record WritesAll (start : Parties) (shifts : List Shift) (last : Work) (lines : List ℕ) (close_at : ℕ) (old new : Option (List ℕ)) : Type 0 where
  pub sequencer : HouseState
  pub after : List FrontView
  pub text : List ℕ
  pub log : Log
  pub served : PartiesServe start shifts last sequencer after text
  pub closed : IsClosed sequencer after close_at log
  pub written : Appends old new (text ++ frozen_text log lines)

-- The output before this fault:
--
-- - nothing, if the parties did not finish, or the clock refused a shift's end;
-- - a prefix of the parties' replies, if the writer failed;
-- - all of these, if the log was not closed;
-- - all of these, and some of the closed log's replies.
pub data WritesSome (start : Parties) (shifts : List Shift) (last : Work) (lines : List ℕ) (close_at : ℕ) (f : Fault) (old new : Option (List ℕ)) : Type 0 where
  nothing_written : IsShiftFault start shifts f → Appends old new [] → WritesSome start shifts last lines close_at f old new
  parties_begun : (sequencer : HouseState) (after : List FrontView) (text : List ℕ) → f ≡ Write → PartiesServe start shifts last sequencer after text
      → SendsSome old new text → WritesSome start shifts last lines close_at f old new
  parties_done : (sequencer : HouseState) (after : List FrontView) (text : List ℕ) → IsClosingFault sequencer.core close_at f
      → PartiesServe start shifts last sequencer after text
      → Appends old new text → WritesSome start shifts last lines close_at f old new
  log_begun : (sequencer : HouseState) (after : List FrontView) (text : List ℕ) (log : Log) (written : List ℕ) → IsFrozenFault f
      → PartiesServe start shifts last sequencer after text → IsClosed sequencer after close_at log → SomeReplies log lines written
      → Appends old new (text ++ written) → WritesSome start shifts last lines close_at f old new

-- All replies to the input were written, by a new house with n fronts and rings of this capacity, opened and closed at these timestamps.
-- The steps of the input's lines were assigned to the parties, shift by shift.
pub record IsServed (n places open_at close_at : ℕ) (input old new : Option (List ℕ)) : Type 0 where
  pub steps : List Step
  pub shifts : List Shift
  pub last : Work
  pub start : Parties
  pub of_input : AreStepsOf n input steps
  pub given : AreShiftsOf n shifts last steps
  pub of_house : AreNewParties n places open_at start
  pub written : WritesAll start shifts last (frozen_lines steps) close_at old new

-- a fault before the parties start, or a fault of the parties
abbrev pub IsEarlyFault : Fault → Type 0
IsEarlyFault f = (f ≡ Read) ⊎ IsPartyFault f

-- the output before this fault: nothing, or a prefix of all replies
pub data IsBegun (n places open_at close_at : ℕ) (f : Fault) (input old new : Option (List ℕ)) : Type 0 where
  not_begun : IsEarlyFault f → Appends old new [] → IsBegun n places open_at close_at f input old new
  begun : (steps : List Step) (shifts : List Shift) (last : Work) (start : Parties) → AreStepsOf n input steps → AreShiftsOf n shifts last steps
      → AreNewParties n places open_at start → WritesSome start shifts last (frozen_lines steps) close_at f old new
      → IsBegun n places open_at close_at f input old new
