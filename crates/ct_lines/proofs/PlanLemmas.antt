-- A plan, task by task.
use Rattle.std.proofs.Common.{◌≡◌, ◌≢◌, ◌<◌, ℕ, zero, suc, List, [], ◌∷◌, ◌++◌, length, map, set, refl, sym, ap, subst, ◌∙◌, arith, inl, inr, append_assoc}
use Rattle.std.proofs.Common.{append-nil, get_or, Vec, Global, true, false}
use Rattle.std.specs.Prelude.{All, Some, slice_get, nat_eq}
use Rattle.std.specs.List.{AllZip, filter_map, flat_map}
use Rattle.std.proofs.lemmas.Grind.{flat_map-append}
use Rattle.std.proofs.lemmas.List.Elements.{All-cons}
use Rattle.std.specs.Vec.{with_item}
use Rattle.std.proofs.lemmas.List.{map-append, length-set, get_or-set_same}
use Rattle.std.proofs.lemmas.Bool.Decides.{eqb_tells}
use Rattle.std.proofs.lemmas.Option.{same_Some, slice_get_within, slice_get_read, slice_get-get_or}
use Rattle.ct_lines.specs.Asked.{FrontAsked}
use Rattle.ct_lines.specs.declared.request.FrontRequest.{FrontRequest}
use Rattle.ct_lines.specs.declared.request.FrozenRequest.{FrozenRequest}
use Rattle.ct_lines.specs.declared.task.OperatorTask.{OperatorTask}
use Rattle.ct_lines.specs.declared.plan.Plan.{Plan}
use Rattle.ct_lines.specs.declared.task.Task.{Task}
use Rattle.ct_lines.specs.declared.task.Task.TheVariants as task_case
use Rattle.ct_lines.specs.declared.plan.Shift.{Shift}
use Rattle.ct_lines.specs.declared.plan.Work.{Work}
use Rattle.ct_lines.specs.Tasks.{PartyTask, Step, does, ends_shift, for_front, for_operator, for_frozen, IsForThere}
use Rattle.ct_lines.specs.Steps.{front_part, front_parts, operator_part, frozen_line}
use Rattle.ct_lines.specs.Requests.{front_asked}
use Rattle.ct_lines.specs.Plans.{AreForFronts, AreShiftsOf, IsPlanOf, IsShiftOf, IsWorkOf, ShiftTasks, shift_steps}
use Rattle.ct_lines.specs.Tasks.{IsFrozenLine, step}
use Rattle.ct_lines.proofs.TaskLemmas.{part_kept, part_grows}

-- a property of each element of a list and of one more element
pub each_more : {A : Type 0} (P : A → Type 0) (xs : List A) (x : A) → ((k : ℕ) (y : A) → slice_get xs k ≡ Some y → P y) → P x
    → (k : ℕ) (y : A) → slice_get (xs ++ x ∷ []) k ≡ Some y → P y
each_more P [] x each one zero y at = subst P (same_Some x y at) one
each_more P [] x each one (suc k) y at = absurd (let past : k < 0 = slice_get_within [] k y at in omega arith)
each_more P (z ∷ zs) x each one zero y at = each zero y at
each_more P (z ∷ zs) x each one (suc k) y at = each_more P zs x (λ j w. each (suc j) w) one k y at

-- a front's own part of its task; other fronts have no part of it
own_part : (k : ℕ) (r : FrontAsked) → filter_map (front_part k) (for_front k r ∷ []) ≡ r ∷ []
own_part k r = elim (eqb_tells k k) [
  | inl same ↦ (let e : nat_eq k k ≡ true = same.0 in rw e refl)
  | inr apart ↦ absurd (apart.1 refl)
]

no_part : (n k : ℕ) (r : FrontAsked) → n ≢ k → filter_map (front_part k) (for_front n r ∷ []) ≡ []
no_part n k r apart = elim (eqb_tells n k) [
  | inl same ↦ absurd (apart same.1)
  | inr other ↦ (let e : nat_eq n k ≡ false = other.0 in rw e refl)
]

-- the element that was set, and the other elements
pub put_there : {A : Type 0} (xs : List A) (i : ℕ) (x y : A) → slice_get xs i ≡ Some x → slice_get (set xs i y) i ≡ Some y
put_there {A = A} xs i x y at =
    let below = slice_get_within xs i x at in
    let inside : i < length (set xs i y) = subst (λ (n : ℕ). i < n) (sym (length-set xs i y)) below in
    slice_get-get_or (set xs i y) i y inside ∙ ap (λ (z : A). Some z) (get_or-set_same xs i y y below)

pub put_elsewhere : {A : Type 0} (xs : List A) (i j : ℕ) (y : A) → j ≢ i → slice_get (set xs i y) j ≡ slice_get xs j
put_elsewhere [] zero j y apart = refl
put_elsewhere [] (suc i) j y apart = refl
put_elsewhere (z ∷ zs) zero zero y apart = absurd (apart refl)
put_elsewhere (z ∷ zs) zero (suc j) y apart = refl
put_elsewhere (z ∷ zs) (suc i) zero y apart = refl
put_elsewhere (z ∷ zs) (suc i) (suc j) y apart = put_elsewhere zs i j y (λ e. apart (ap (λ (n : ℕ). suc n) e))

-- the tasks of one front grow by one, and those of the others are unchanged
fronts_grow : (lists : List (Vec FrontRequest Global)) (ts : List PartyTask) (f : ℕ) (old new : Vec FrontRequest Global) (t : FrontRequest)
    → slice_get lists f ≡ Some old → new.items ≡ old.items ++ t ∷ []
    → ((k : ℕ) (v : Vec FrontRequest Global) → slice_get lists k ≡ Some v → map front_asked v.items ≡ front_parts k ts)
    → (k : ℕ) (v : Vec FrontRequest Global) → slice_get (set lists f new) k ≡ Some v
    → map front_asked v.items ≡ front_parts k (ts ++ for_front f (front_asked t) ∷ [])
fronts_grow lists ts f old new t there grown each k v at = elim (eqb_tells k f) [
  | inl same ↦ (
      let here : slice_get (set lists f new) k ≡ Some new = ap (slice_get (set lists f new)) same.1 ∙ put_there lists f old new there in
      let is : v ≡ new = same_Some v new (sym at ∙ here) in
      let before : map front_asked old.items ≡ front_parts f ts = each f old there in
      ap (λ (w : Vec FrontRequest Global). map front_asked w.items) is ∙ ap (map front_asked) grown ∙ map-append front_asked old.items (t ∷ [])
      ∙ part_grows (front_part f) ts (for_front f (front_asked t)) (map front_asked old.items) (front_asked t) before (own_part f (front_asked t))
      ∙ ap (λ (n : ℕ). front_parts n (ts ++ for_front f (front_asked t) ∷ [])) (sym same.1)
      )
  | inr apart ↦ part_kept (front_part k) ts (for_front f (front_asked t)) (map front_asked v.items) (each k v (sym (put_elsewhere lists f k new apart.1) ∙ at))
      (no_part f k (front_asked t) (λ e. apart.1 (sym e)))
]

-- a front has one more task
pub front_added : (n : ℕ) (w : Work) (ts : List PartyTask) (f : ℕ) (old new : Vec FrontRequest Global) (t : FrontRequest) → f < length w.fronts.items
    → old ≡ get_or w.fronts.items f old
    → new.items ≡ old.items ++ t ∷ [] → IsWorkOf n w ts
    → IsWorkOf n record { fronts = with_item w.fronts f new; operator = w.operator } (ts ++ for_front f (front_asked t) ∷ [])
front_added n w ts f old new t below at grown i = record {
  count = length-set w.fronts.items f new ∙ i.count;
  fronts = fronts_grow w.fronts.items ts f old new t (slice_get_read w.fronts.items (length w.fronts.items) f old refl below at) grown i.fronts;
  operator = part_kept operator_part ts (for_front f (front_asked t)) w.operator.items i.operator refl;
}

-- the operator has one more task
pub operator_added : (n : ℕ) (w : Work) (ts : List PartyTask) (t : OperatorTask) (new : Vec OperatorTask Global)
    → new.items ≡ w.operator.items ++ t ∷ [] → IsWorkOf n w ts
    → IsWorkOf n record { fronts = w.fronts; operator = new } (ts ++ for_operator t ∷ [])
operator_added n w ts t new grown i = record {
  count = i.count;
  fronts = λ k v at. part_kept (front_part k) ts (for_operator t) (map front_asked v.items) (i.fronts k v at) refl;
  operator = grown ∙ part_grows operator_part ts (for_operator t) w.operator.items t i.operator refl;
}

-- a task for the frozen log does not change the work of fronts and operator
pub frozen_beside : (n : ℕ) (w : Work) (ts : List PartyTask) (line : List ℕ) → IsWorkOf n w ts → IsWorkOf n w (ts ++ for_frozen line ∷ [])
frozen_beside n w ts line i = record {
  count = i.count;
  fronts = λ k v at. part_kept (front_part k) ts (for_frozen line) (map front_asked v.items) (i.fronts k v at) refl;
  operator = part_kept operator_part ts (for_frozen line) w.operator.items i.operator refl;
}

-- ---- shift by shift

-- one more pair
pub all_zip_more : {A B : Type 0} (R : A → B → Type 0) (xs : List A) (ys : List B) (x : A) (y : B) → AllZip R xs ys → R x y
    → AllZip R (xs ++ x ∷ []) (ys ++ y ∷ [])
all_zip_more R [] [] x y all one = (one, tt)
all_zip_more R [] (b ∷ ys) x y all one = absurd all
all_zip_more R (a ∷ xs) [] x y all one = absurd all
all_zip_more R (a ∷ xs) (b ∷ ys) x y (first, rest) one = (first, all_zip_more R xs ys x y rest one)

-- the last work has one more task
task_added : (n : ℕ) (shifts : List Shift) (old new : Work) (ss : List Step) (t : PartyTask)
    → ((ts : List PartyTask) → IsWorkOf n old ts → IsWorkOf n new (ts ++ t ∷ [])) → AreShiftsOf n shifts old ss
    → AreShiftsOf n shifts new (ss ++ does t ∷ [])
task_added n shifts old new ss t grows a = record {
  ended = a.ended;
  left = a.left ++ t ∷ [];
  cut = ap (λ (l : List Step). l ++ does t ∷ []) a.cut ∙ append_assoc (flat_map shift_steps a.ended) (map does a.left) (does t ∷ [])
      ∙ ap (λ (l : List Step). flat_map shift_steps a.ended ++ l) (sym (map-append does a.left (t ∷ [])));
  each = a.each;
  rest = grows a.left a.rest;
}

pub plan_does : (n : ℕ) (p : Plan) (new : Work) (ss : List Step) (t : PartyTask) → filter_map frozen_line (does t ∷ []) ≡ []
    → ((ts : List PartyTask) → IsWorkOf n p.last ts → IsWorkOf n new (ts ++ t ∷ [])) → IsPlanOf n p ss
    → IsPlanOf n record { shifts = p.shifts; last = new; frozen = p.frozen } (ss ++ does t ∷ [])
plan_does n p new ss t none grows i = record {
  given = task_added n p.shifts.items p.last new ss t grows i.given;
  frozen = subst (AllZip IsFrozenLine p.frozen.items) (part_kept frozen_line ss (does t) (filter_map frozen_line ss) refl none) i.frozen;
}

-- the frozen log has one more request to answer
pub frozen_added : (n : ℕ) (p : Plan) (ss : List Step) (line : List ℕ) (r : FrozenRequest) (new : Vec FrozenRequest Global) → new.items ≡ p.frozen.items ++ r ∷ []
    → IsFrozenLine r line → IsPlanOf n p ss → IsPlanOf n record { shifts = p.shifts; last = p.last; frozen = new } (ss ++ does (for_frozen line) ∷ [])
frozen_added n p ss line r new grown is i = record {
  given = task_added n p.shifts.items p.last p.last ss (for_frozen line) (λ ts w. frozen_beside n p.last ts line w) i.given;
  frozen = subst (λ (l : List FrozenRequest). AllZip IsFrozenLine l (filter_map frozen_line (ss ++ does (for_frozen line) ∷ []))) (sym grown)
      (subst (AllZip IsFrozenLine (p.frozen.items ++ r ∷ [])) (part_grows frozen_line ss (does (for_frozen line)) (filter_map frozen_line ss) line refl refl)
      (all_zip_more IsFrozenLine p.frozen.items (filter_map frozen_line ss) r line i.frozen is));
}

-- the shift ends, and another starts
shift_ended : (n : ℕ) (shifts : List Shift) (last next : Work) (ss : List Step) (s : Shift) → s.work ≡ last → IsWorkOf n next [] → AreShiftsOf n shifts last ss
    → AreShiftsOf n (shifts ++ s ∷ []) next (ss ++ ends_shift s.now ∷ [])
shift_ended n shifts last next ss s is fresh a =
    let own : ShiftTasks = record { tasks = a.left; now = s.now } in
    let done = flat_map shift_steps a.ended in
    record {
      ended = a.ended ++ own ∷ [];
      left = [];
      cut = ap (λ (l : List Step). l ++ ends_shift s.now ∷ []) a.cut ∙ append_assoc done (map does a.left) (ends_shift s.now ∷ [])
          ∙ ap (λ (l : List Step). done ++ l) (sym (append-nil (shift_steps own))) ∙ sym (flat_map-append shift_steps a.ended (own ∷ []))
          ∙ sym (append-nil (flat_map shift_steps (a.ended ++ own ∷ [])));
      each = all_zip_more (IsShiftOf n) shifts a.ended s own a.each (subst (λ (w : Work). IsWorkOf n w a.left) (sym is) a.rest, refl);
      rest = fresh;
    }

pub plan_ends_shift : (n m : ℕ) (p : Plan) (next : Work) (shifts : Vec Shift Global) (ss : List Step) (s : Shift) → s.work ≡ p.last
    → m ≡ length p.last.fronts.items → IsWorkOf m next []
    → shifts.items ≡ p.shifts.items ++ s ∷ [] → IsPlanOf n p ss
    → IsPlanOf n record { shifts = shifts; last = next; frozen = p.frozen } (ss ++ ends_shift s.now ∷ [])
plan_ends_shift n m p next shifts ss s is many fresh grown i = record {
  given = subst (λ (l : List Shift). AreShiftsOf n l next (ss ++ ends_shift s.now ∷ [])) (sym grown)
      (shift_ended n p.shifts.items p.last next ss s is (subst (λ (k : ℕ). IsWorkOf k next []) (many ∙ i.given.rest.count) fresh) i.given);
  frozen = subst (AllZip IsFrozenLine p.frozen.items) (part_kept frozen_line ss (ends_shift s.now) (filter_map frozen_line ss) refl refl) i.frozen;
}

-- each shift, and the last work, is for n fronts
pub for_fronts : (n : ℕ) (shifts : List Shift) (last : Work) (ss : List Step) → AreShiftsOf n shifts last ss → AreForFronts n shifts last
for_fronts n shifts last ss a = (each shifts a.ended a.each, a.rest.count)
  where
    each : (xs : List Shift) (ys : List ShiftTasks) → AllZip (IsShiftOf n) xs ys → All (λ (s : Shift). length s.work.fronts.items ≡ n) xs
    each [] [] all = λ k d below. absurd (omega arith)
    each [] (y ∷ ys) all = absurd all
    each (x ∷ xs) [] all = absurd all
    each (x ∷ xs) (y ∷ ys) (first, rest) = All-cons (λ (s : Shift). length s.work.fronts.items ≡ n) x xs first.0.count (each xs ys rest)

-- a new plan has no steps
pub plan_new : (n : ℕ) (p : Plan) → p.shifts.items ≡ [] → p.frozen.items ≡ [] → IsWorkOf n p.last [] → IsPlanOf n p []
plan_new n p none quiet work = record {
  given = record { ended = []; left = []; cut = refl; each = subst (λ (l : List Shift). AllZip (IsShiftOf n) l []) (sym none) tt; rest = work };
  frozen = subst (λ (l : List FrozenRequest). AllZip IsFrozenLine l []) (sym quiet) tt;
}

-- whether the front of a task exists does not depend on the line
pub there_anyway : (n : ℕ) (line other : List ℕ) (t : Task) → IsForThere n (step line t) → IsForThere n (step other t)
there_anyway n line other (task_case.Front k r) there = there
there_anyway n line other (task_case.Operator t) there = there
there_anyway n line other (task_case.Frozen r) there = there
there_anyway n line other (task_case.EndsShift now) there = there
