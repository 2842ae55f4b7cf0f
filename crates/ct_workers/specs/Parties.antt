-- The work of the fronts and the operator in a shift, and its result.
use Rattle.std.specs.Prelude.{◌≡◌, ◌⊎◌, ℕ, List, [], ◌∷◌, ◌++◌, map, Vec}
use Rattle.std.specs.Global.{Global}
use Rattle.std.specs.List.{AllZip, flat_map}
use Rattle.ct_house.specs.House.{FrontView, HouseState}
use Rattle.ct_lines.specs.declared.run_fault.Fault.{Fault}
use Rattle.ct_lines.specs.declared.run_fault.Fault.TheVariants.{Memory, Threads}
use Rattle.ct_workers.specs.FrontWork.{FrontGoesOn, FrontServes}
use Rattle.ct_workers.specs.OperatorWork.{OperatorServes, GoesOn}
use Rattle.ct_workers.specs.declared.party.FrontParty.{FrontParty}
use Rattle.ct_workers.specs.declared.party.FrontShift.{FrontShift}
use Rattle.ct_lines.specs.declared.plan.Work.{Work}
use Rattle.ct_lines.specs.declared.request.FrontRequest.{FrontRequest}

-- the parties between two tasks: the house, the operator's replies so far, and each front with its replies so far
pub record Parties : Type 0 where
  pub house : HouseState
  pub told : List ℕ
  pub fronts : List FrontParty

-- the fronts of the parties
abbrev pub fronts_of : List FrontParty → List FrontView
fronts_of parties = map (λ (p : FrontParty). p.front) parties

-- all replies so far: those of each front in order, and then the operator's
abbrev pub all_replies : Parties → List ℕ
all_replies p = flat_map (λ (f : FrontParty). f.replies.items) p.fronts ++ p.told

-- a front does its tasks in turn, appends its replies to those so far, and continues
pub record FrontDoesShift (a : FrontParty) (tasks : List FrontRequest) (b : FrontParty) : Type 0 where
  pub serves : FrontServes a.front tasks a.replies.items b.front b.replies.items
  pub goes_on : FrontGoesOn a.front b.front

-- each front does its tasks
abbrev pub FrontsDoShift : List FrontParty → List (Vec FrontRequest Global) → List FrontParty → Type 0
FrontsDoShift [] [] [] = Unit {0}
FrontsDoShift (a ∷ before) (ts ∷ work) (b ∷ after) = FrontDoesShift a ts.items b × FrontsDoShift before work after
FrontsDoShift _ _ _ = ⊥

-- the same for fronts that are paired with their tasks
abbrev pub FrontsDo : List FrontShift → List FrontParty → Type 0
FrontsDo shifts after = AllZip (λ (s : FrontShift) (b : FrontParty). FrontDoesShift s.party s.tasks.items b) shifts after

-- All parties do the work of a shift, in any order between them: each front does its tasks, and the operator its own, on the house, which
-- continues.
pub record DoesShift (a : Parties) (work : Work) (b : Parties) : Type 0 where
  pub fronts : FrontsDoShift a.fronts work.fronts.items b.fronts
  pub operated : OperatorServes a.house work.operator.items a.told b.house b.told
  pub goes_on : GoesOn a.house b.house

-- a thread could not be started, or there was no memory
abbrev pub IsPartyFault : Fault → Type 0
IsPartyFault f = (f ≡ Threads) ⊎ (f ≡ Memory)
