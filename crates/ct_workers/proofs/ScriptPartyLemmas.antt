-- The results of a shift for the fronts and the operator, one front after the other.
use Rattle.std.proofs.Common.{◌≡◌, ℕ, List, [], ◌∷◌, ◌++◌, length, map, sym, subst, reverse}
use Rattle.std.specs.Global.{Global}
use Rattle.std.specs.Prelude.{Vec, Result, Ok, OnOk}
use Rattle.ct_house.specs.House.{HouseState}
use Rattle.ct_workers.specs.OperatorWork.{GoesOn, OperatorServes}
use Rattle.ct_workers.specs.Fronts.{AllGoOn}
use Rattle.ct_workers.specs.Parties.{DoesShift, FrontDoesShift, FrontsDo, FrontsDoShift, fronts_of}
use Rattle.ct_workers.specs.declared.party.FrontParty.{FrontParty}
use Rattle.ct_workers.specs.declared.party.FrontShift.{FrontShift}
use Rattle.ct_lines.specs.declared.plan.Work.{Work}
use Rattle.ct_lines.proofs.PlanLemmas.{all_zip_more}
use Rattle.ct_lines.specs.declared.request.FrontRequest.{FrontRequest}

-- a fact that holds if a result is Ok holds for a result that is Ok
pub on_ok_is : {T E : Type 0} {P : Type 0} {r : Result T E} {x : T} → r ≡ Ok x → OnOk r P → P
on_ok_is {P} is p = subst (λ (r : _). OnOk r P) is p

-- fronts that were paired with their tasks did them
pub did_shift : (shifts : List FrontShift) (after : List FrontParty) → FrontsDo shifts after
    → FrontsDoShift (map (λ (s : FrontShift). s.party) shifts) (map (λ (s : FrontShift). s.tasks) shifts) after
did_shift [] [] all = tt
did_shift [] (b ∷ after) all = absurd all
did_shift (s ∷ shifts) [] all = absurd all
did_shift (s ∷ shifts) (b ∷ after) (first, rest) = (first, did_shift shifts after rest)

-- these fronts continued
pub shift_same : (before : List FrontParty) (work : List (Vec FrontRequest Global)) (after : List FrontParty) → FrontsDoShift before work after
    → AllGoOn (fronts_of before) (fronts_of after)
shift_same [] [] [] all = tt
shift_same [] [] (b ∷ after) all = absurd all
shift_same [] (w ∷ work) after all = absurd all
shift_same (a ∷ before) [] after all = absurd all
shift_same (a ∷ before) (w ∷ work) [] all = absurd all
shift_same (a ∷ before) (w ∷ work) (b ∷ after) (first, rest) = (first.goes_on, shift_same before work after rest)

-- if the threads of a shift returned these fronts, all parties did their work
pub does_shift : (house after : HouseState) (told more : List ℕ) (parties : List FrontParty) (work : Work) (shifts : List FrontShift)
    (v : Vec FrontParty Global) → map (λ (s : FrontShift). s.party) shifts ≡ parties → map (λ (s : FrontShift). s.tasks) shifts ≡ work.fronts.items
    → FrontsDo shifts v.items → OperatorServes house work.operator.items told after more → GoesOn house after
    → DoesShift (record { house = house; told = told; fronts = parties }) work (record { house = after; told = more; fronts = v.items })
does_shift house after told more parties work shifts v own tasks all serves on = record {
  fronts = subst (λ (l : List (Vec FrontRequest Global)). FrontsDoShift parties l v.items) tasks
      (subst (λ (l : List FrontParty). FrontsDoShift l (map (λ (s : FrontShift). s.tasks) shifts) v.items) own (did_shift shifts v.items all));
  operated = serves;
  goes_on = on;
}

-- one more front
pub fronts_do_more : (shifts : List FrontShift) (after all : List FrontParty) (s : FrontShift) (b : FrontParty) → FrontsDo shifts after
    → FrontDoesShift s.party s.tasks.items b → all ≡ after ++ b ∷ []
    → FrontsDo (shifts ++ s ∷ []) all
fronts_do_more shifts after all s b done one is =
    subst (λ (l : List FrontParty). FrontsDo (shifts ++ s ∷ []) l) (sym is)
    (all_zip_more (λ (x : FrontShift) (y : FrontParty). FrontDoesShift x.party x.tasks.items y) shifts after s b done one)

-- the fronts and tasks that are left, and the pairs made of the others, the last one first
pub record Pairing (parties left : List FrontParty) (tasks own : List (Vec FrontRequest Global)) (shifts : List FrontShift) : Type 0 where
  pub all_parties : parties ≡ left ++ map (λ (s : FrontShift). s.party) (reverse shifts)
  pub all_tasks : tasks ≡ own ++ map (λ (s : FrontShift). s.tasks) (reverse shifts)
  pub count : length own ≡ length left
