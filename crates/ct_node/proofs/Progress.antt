-- Some node comes to its answer if no store fails. A number is given to each node: how many outcomes are left to it at most until some node
-- comes to its answer. Each outcome lowers the sum of these numbers.
use Rattle.std.proofs.Common.{refl, subst, ◌⊎◌, inl, inr, ⊎_elim, ◌≡◌, ℕ, ◌+◌, ◌*◌, ◌<◌, ◌≤◌, sym, ap, arith, ltb-true, lt-ltb, eq-eqb, List, [], ◌∷◌, ◌++◌, length}
use Rattle.std.specs.Prelude.{⊤, Bool, true, false, ◌&&◌, ◌==◌, nat_lt, if◌then◌else◌}
use Rattle.ct_node.specs.declared.state.State.{State}
use Rattle.ct_node.specs.declared.node.Node.{Node}
use Rattle.ct_node.specs.declared.node.Node.TheVariants.{Reading, Looking, Stepping, Staging, Swapping, Deleting, Putting, Placing, Heading, Answering}
use Rattle.ct_node.specs.declared.node.Outcome.{Outcome}
use Rattle.ct_node.specs.declared.node.Outcome.TheVariants.{Done, Lost, Read, Published, Bundle, Stepped}
use Rattle.ct_node.specs.Nodes.{after, follows}
use Rattle.ct_node.specs.Worlds.{Has, World, IsSoundWorld}
use Rattle.ct_node.specs.Progress.{IsNear, Turn, after_turn, IsWithoutFailure, AreWithoutFailure, SomeNodeAnswers, StartedNodesAnswer, NodesAnswerAgain}
use Rattle.ct_node.proofs.Sound.{Kept, Knows, and_true, is_kept}

-- ---- one node
staged : (k l : State) (n : ℕ) → follows k l ≡ true → after (Stepping k) (Stepped l n) ≡ Staging k l n
staged k l n q = subst (λ t. (if t then Staging k l n else Stepping k) ≡ Staging k l n) (sym q) refl

pub near : IsNear
near Reading = omega arith
near (Looking k) = omega arith
near (Stepping k) = omega arith
near (Staging k l n) = omega arith
near (Swapping k l n) = omega arith
near (Deleting k l) = omega arith
near (Putting l n) = omega arith
near (Placing l) = omega arith
near (Heading l) = omega arith
near (Answering l) = omega arith

-- ---- lists of nodes
Each : (Node → Type 0) → List Node → Type 0
Each P [] = ⊤
Each P (s ∷ rest) = P s × Each P rest

each_of : (P : Node → Type 0) (nodes : List Node) → ((s : Node) → Has s nodes → P s) → Each P nodes
unfolding Each
each_of P [] f = tt
each_of P (s ∷ rest) f = (f s (inl refl), each_of P rest (λ x h. f x (inr h)))

each_split : (P : Node → Type 0) (before : List Node) (s : Node) (behind : List Node) → Each P (before ++ s ∷ behind) → Each P before × P s × Each P behind
unfolding Each
each_split P [] s behind e = (tt, e.0, e.1)
each_split P (x ∷ before) s behind e =
    let r = each_split P before s behind e.1 in
    ((e.0, r.0), r.1, r.2)

each_join : (P : Node → Type 0) (before : List Node) (s : Node) (behind : List Node) → Each P before → P s → Each P behind → Each P (before ++ s ∷ behind)
unfolding Each
each_join P [] s behind a p c = (p, c)
each_join P (x ∷ before) s behind a p c = (a.0, each_join P before s behind a.1 p c)

each_to : (P Q : Node → Type 0) → ((s : Node) → P s → Q s) → (nodes : List Node) → Each P nodes → Each Q nodes
unfolding Each
each_to P Q f [] e = tt
each_to P Q f (s ∷ rest) e = (f s e.0, each_to P Q f rest e.1)

total : (Node → ℕ) → List Node → ℕ
total far [] = 0
total far (s ∷ rest) = far s + total far rest

total_split : (far : Node → ℕ) (before : List Node) (s : Node) (behind : List Node) → total far (before ++ s ∷ behind) ≡ total far before + far s + total far behind
unfolding total
total_split far [] s behind = omega arith
total_split far (x ∷ before) s behind = let e = total_split far before s behind in omega (arith, e)

total_least : (P : Node → Type 0) (less more : Node → ℕ) → ((s : Node) → P s → less s ≤ more s) → (nodes : List Node) → Each P nodes → total less nodes ≤ total more nodes
unfolding Each total
total_least P less more f [] e = omega arith
total_least P less more f (s ∷ rest) e =
    let a = f s e.0 in
    let c = total_least P less more f rest e.1 in
    omega (arith, a, c)

total_most : (far : Node → ℕ) (most : ℕ) (nodes : List Node) → Each (λ s. far s ≤ most) nodes → total far nodes ≤ most * length nodes
unfolding Each total
total_most far most [] e = omega arith
total_most far most (s ∷ rest) e =
    let c = total_most far most rest e.1 in
    let a = e.0 in
    let m : most * (length rest + 1) ≡ most * length rest + most = omega arith in
    omega (arith, a, c, m)

total_some : (far : Node → ℕ) → ((s : Node) → 0 < far s) → (nodes : List Node) → 0 < length nodes → 0 < total far nodes
unfolding total
total_some far f [] h = absurd (omega (arith, h))
total_some far f (s ∷ rest) h = let a = f s in omega (arith, a)

-- ---- how many outcomes are left to a node at most before some node comes to its answer
-- what a node loses if it read a state that is not the lock's newest one any more
abbrev lost_if : Bool → ℕ
lost_if true = 5
lost_if false = 0

late : State → State → ℕ
late h k = lost_if (nat_lt k.moment h.moment)

late_old : (h k : State) → k.moment < h.moment → late h k ≡ 5
unfolding late
late_old h k lt = ap lost_if (lt-ltb k.moment h.moment lt)

late_most : (h k : State) → late h k ≤ 5
unfolding late
late_most h k =
    elim (nat_lt k.moment h.moment) as (λ t. lost_if t ≤ 5) [
      | true ↦ omega arith
      | false ↦ omega arith
    ]

late_none : (h k : State) → h ≡ k → late h k ≡ 0
unfolding late
late_none h k e =
    let m : h.moment ≡ k.moment = ap (λ (z : State). z.moment) e in
    elim (nat_lt k.moment h.moment) as (λ t. nat_lt k.moment h.moment ≡ t → lost_if t ≡ 0) [
      | true ↦ λ q. absurd (omega (arith, m, ltb-true k.moment h.moment q))
      | false ↦ λ q. refl
    ] refl

-- before any swap is taken
left : State → Node → ℕ
left h Reading = 9
left h (Looking k) = 8 + late h k
left h (Stepping k) = 7 + late h k
left h (Staging k l n) = 6 + late h k
left h (Swapping k l n) = 5 + late h k
left h (Deleting k l) = 8 + late h k
left h (Putting l n) = 3
left h (Placing l) = 2
left h (Heading l) = 1
left h (Answering l) = 10

-- once a swap was taken, and its state has no head
left_then : State → Node → ℕ
left_then h Reading = 4
left_then h (Looking k) = 3 + late h k
left_then h (Stepping k) = 7
left_then h (Staging k l n) = 6
left_then h (Swapping k l n) = 5
left_then h (Deleting k l) = 8
left_then h (Putting l n) = 2
left_then h (Placing l) = 1
left_then h (Heading l) = 0
left_then h (Answering l) = 5

-- the state is the lock's, or an earlier one
abbrev IsUpTo : State → State → Type 0
IsUpTo h k = (k ≡ h) ⊎ (k.moment < h.moment)

-- the knowledge that a node has
Fits : State → Node → Type 0
Fits h (Looking k) = IsUpTo h k
Fits h (Stepping k) = IsUpTo h k
Fits h (Staging k l n) = IsUpTo h k × (follows k l ≡ true)
Fits h (Swapping k l n) = IsUpTo h k × (follows k l ≡ true)
Fits h (Deleting k l) = IsUpTo h k
Fits h s = ⊤

FitsThen : State → Node → Type 0
FitsThen h (Looking k) = IsUpTo h k
FitsThen h (Stepping k) = k.moment < h.moment
FitsThen h (Staging k l n) = k.moment < h.moment
FitsThen h (Swapping k l n) = k.moment < h.moment
FitsThen h (Deleting k l) = k.moment < h.moment
FitsThen h s = ⊤

abbrev Comes : Node → Outcome → Type 0
Comes s o = (l : State) × (after s o ≡ Answering l)

-- ---- once a swap was taken
-- the turn changes neither what the lock holds nor the heads, and the node comes nearer
abbrev TurnsThen : World → Node → Outcome → Type 0
TurnsThen w s o =
    ((after_turn w s o).held ≡ w.held) × ((after_turn w s o).heads ≡ w.heads) × FitsThen w.held (after s o) × (left_then w.held (after s o) < left_then w.held s)

turn_then : (w : World) (s : Node) (o : Outcome) → ((x : State) → Has x w.heads → x.moment < w.held.moment) → FitsThen w.held s → IsWithoutFailure w s o
    → Comes s o ⊎ TurnsThen w s o
unfolding FitsThen left_then
turn_then w Reading (Read k) heads fit so = let z = late_none w.held k so in inr (refl, refl, inl (sym so), omega (arith, z))
turn_then w (Looking k) Published heads fit so =
    let lt = heads k so in
    let z = late_old w.held k lt in
    inr (refl, refl, lt, omega (arith, z))
turn_then w (Looking k) (Bundle n) heads fit so = inr (refl, refl, tt, omega arith)
turn_then w (Stepping k) (Stepped l n) heads fit so =
    inr (subst (λ s. (w.held ≡ w.held) × (w.heads ≡ w.heads) × FitsThen w.held s × (left_then w.held s < 7)) (sym (staged k l n so)) (refl, refl, fit, omega arith))
turn_then w (Staging k l n) Done heads fit so = inr (refl, refl, fit, omega arith)
turn_then w (Swapping k l n) Done heads fit so =
    let m : w.held.moment ≡ k.moment = ap (λ (z : State). z.moment) so in
    absurd (omega (arith, m, fit))
turn_then w (Swapping k l n) Lost heads fit so = inr (refl, refl, tt, omega arith)
turn_then w (Deleting k l) Done heads fit so = inr (refl, refl, fit, omega arith)
turn_then w (Deleting k l) Lost heads fit so = inr (refl, refl, fit, omega arith)
turn_then w (Putting l n) Done heads fit so = inr (refl, refl, tt, omega arith)
turn_then w (Placing l) Done heads fit so = inr (refl, refl, tt, omega arith)
turn_then w (Heading l) Done heads fit so = inl (l, refl)
turn_then w (Answering l) Done heads fit so = inr (refl, refl, tt, omega arith)
turn_then w s o heads fit so = absurd so

comes_later : (t : Turn) (ts : List Turn) → SomeNodeAnswers ts → SomeNodeAnswers (t ∷ ts)
comes_later t ts f = (f.0, inr f.1, f.2)

go_then : (ts : List Turn) (w : World) (nodes : List Node) → ((x : State) → Has x w.heads → x.moment < w.held.moment) → Each (FitsThen w.held) nodes
    → AreWithoutFailure w nodes ts → SomeNodeAnswers ts ⊎ (length ts ≤ total (left_then w.held) nodes)
unfolding AreWithoutFailure
go_then [] w nodes heads fits run = inr (omega arith)
go_then (t ∷ ts) w nodes heads fits run =
    let v = after_turn w t.node t.outcome in
    let next = t.before ++ after t.node t.outcome ∷ t.behind in
    let old = each_split (FitsThen w.held) t.before t.node t.behind (subst (Each (FitsThen w.held)) run.0 fits) in
    ⊎_elim
    (λ (c : Comes t.node t.outcome). inl (t, inl refl, c))
    (λ (r : TurnsThen w t.node t.outcome).
    let fits_next = each_join (FitsThen w.held) t.before (after t.node t.outcome) t.behind old.0 r.2 old.2 in
    let heads_next : (x : State) → Has x v.heads → x.moment < v.held.moment =
    λ x h. subst (λ (z : State). x.moment < z.moment) (sym r.0) (heads x (subst (λ (z : List State). Has x z) r.1 h)) in
    ⊎_elim
    (λ (f : SomeNodeAnswers ts). inl (comes_later t ts f))
    (λ (m : length ts ≤ total (left_then v.held) next).
    let m2 : length ts ≤ total (left_then w.held) next = subst (λ (z : State). length ts ≤ total (left_then z) next) r.0 m in
    let a = total_split (left_then w.held) t.before t.node t.behind in
    let c = total_split (left_then w.held) t.before (after t.node t.outcome) t.behind in
    let e : total (left_then w.held) nodes ≡ total (left_then w.held) (t.before ++ t.node ∷ t.behind) = ap (total (left_then w.held)) run.0 in
    let near = r.3 in
    inr (omega (arith, m2, a, c, e, near)))
    (go_then ts v next heads_next (subst (λ (z : State). Each (FitsThen z) next) (sym r.0) fits_next) run.2))
    (turn_then w t.node t.outcome heads old.1 run.1)

-- ---- before any swap is taken
abbrev Turns : World → Node → Outcome → Type 0
Turns w s o = ((after_turn w s o).held ≡ w.held) × ((after_turn w s o).heads ≡ w.heads) × Fits w.held (after s o) × (left w.held (after s o) < left w.held s)

-- the lock takes the node's swap
abbrev Takes : World → Node → Outcome → Type 0
Takes w s o =
    (w.held.moment < (after_turn w s o).held.moment) × ((after_turn w s o).heads ≡ w.heads) × FitsThen (after_turn w s o).held (after s o)
    × (left_then (after_turn w s o).held (after s o) + 2 < left w.held s)

later : (k l : State) → follows k l ≡ true → k.moment < l.moment
later k l q = ltb-true k.moment l.moment (and_true (l.before == k.moment) (nat_lt k.moment l.moment) q).1

turn : (w : World) (s : Node) (o : Outcome) → Fits w.held s → IsWithoutFailure w s o → Comes s o ⊎ (Turns w s o ⊎ Takes w s o)
unfolding Fits FitsThen left left_then
turn w Reading (Read k) fit so = let z = late_none w.held k so in inr (inl (refl, refl, inl (sym so), omega (arith, z)))
turn w (Looking k) Published fit so = inr (inl (refl, refl, fit, omega arith))
turn w (Looking k) (Bundle n) fit so = inr (inl (refl, refl, tt, omega arith))
turn w (Stepping k) (Stepped l n) fit so =
    inr (inl (subst (λ s. (w.held ≡ w.held) × (w.heads ≡ w.heads) × Fits w.held s × (left w.held s < 7 + late w.held k)) (sym (staged k l n so)) (refl, refl, (fit, so), omega arith)))
turn w (Staging k l n) Done fit so = inr (inl (refl, refl, fit, omega arith))
turn w (Swapping k l n) Done fit so =
    let m : w.held.moment ≡ k.moment = ap (λ (z : State). z.moment) so in
    let lt = later k l fit.1 in
    inr (inr (omega (arith, m, lt), refl, tt, omega arith))
turn w (Swapping k l n) Lost fit so =
    ⊎_elim
    (λ (e : k ≡ w.held). absurd (so (sym e)))
    (λ (lt : k.moment < w.held.moment). let z = late_old w.held k lt in inr (inl (refl, refl, tt, omega (arith, z))))
    fit.0
turn w (Deleting k l) Done fit so = inr (inl (refl, refl, fit, omega arith))
turn w (Deleting k l) Lost fit so = inr (inl (refl, refl, fit, omega arith))
turn w (Putting l n) Done fit so = inr (inl (refl, refl, tt, omega arith))
turn w (Placing l) Done fit so = inr (inl (refl, refl, tt, omega arith))
turn w (Heading l) Done fit so = inl (l, refl)
turn w (Answering l) Done fit so = inr (inl (refl, refl, tt, omega arith))
turn w s o fit so = absurd so

-- what is known and left once the lock took a later state
up_to_before : (h l k : State) → h.moment < l.moment → IsUpTo h k → k.moment < l.moment
up_to_before h l k lt u =
    ⊎_elim
    (λ (e : k ≡ h). let m : k.moment ≡ h.moment = ap (λ (z : State). z.moment) e in omega (arith, m, lt))
    (λ (o : k.moment < h.moment). omega (arith, o, lt))
    u

fits_on : (h l : State) → h.moment < l.moment → (s : Node) → Fits h s → FitsThen l s
unfolding Fits FitsThen
fits_on h l lt Reading fit = tt
fits_on h l lt (Looking k) fit = inr (up_to_before h l k lt fit)
fits_on h l lt (Stepping k) fit = up_to_before h l k lt fit
fits_on h l lt (Staging k m n) fit = up_to_before h l k lt fit.0
fits_on h l lt (Swapping k m n) fit = up_to_before h l k lt fit.0
fits_on h l lt (Deleting k m) fit = up_to_before h l k lt fit
fits_on h l lt (Putting m n) fit = tt
fits_on h l lt (Placing m) fit = tt
fits_on h l lt (Heading m) fit = tt
fits_on h l lt (Answering m) fit = tt

left_on : (h l : State) (s : Node) → left_then l s ≤ left h s
unfolding left left_then
left_on h l Reading = omega arith
left_on h l (Looking k) = let z = late_most l k in omega (arith, z)
left_on h l (Stepping k) = omega arith
left_on h l (Staging k m n) = omega arith
left_on h l (Swapping k m n) = omega arith
left_on h l (Deleting k m) = omega arith
left_on h l (Putting m n) = omega arith
left_on h l (Placing m) = omega arith
left_on h l (Heading m) = omega arith
left_on h l (Answering m) = omega arith

left_some : (h : State) (s : Node) → 0 < left h s
unfolding left
left_some h Reading = omega arith
left_some h (Looking k) = omega arith
left_some h (Stepping k) = omega arith
left_some h (Staging k m n) = omega arith
left_some h (Swapping k m n) = omega arith
left_some h (Deleting k m) = omega arith
left_some h (Putting m n) = omega arith
left_some h (Placing m) = omega arith
left_some h (Heading m) = omega arith
left_some h (Answering m) = omega arith

longer : (before : List Node) (s : Node) (behind : List Node) → 0 < length (before ++ s ∷ behind)
longer [] s behind = omega arith
longer (x ∷ before) s behind = omega arith

go : (ts : List Turn) (w : World) (nodes : List Node) → 0 < length nodes → ((x : State) → Has x w.heads → x.moment ≤ w.held.moment) → Each (Fits w.held) nodes
    → AreWithoutFailure w nodes ts → SomeNodeAnswers ts ⊎ (length ts < total (left w.held) nodes)
unfolding AreWithoutFailure
go [] w nodes some heads fits run = let p = total_some (left w.held) (left_some w.held) nodes some in inr (omega (arith, p))
go (t ∷ ts) w nodes some heads fits run =
    let h = w.held in
    let v = after_turn w t.node t.outcome in
    let next = t.before ++ after t.node t.outcome ∷ t.behind in
    let old = each_split (Fits h) t.before t.node t.behind (subst (Each (Fits h)) run.0 fits) in
    let a = total_split (left h) t.before t.node t.behind in
    let e : total (left h) nodes ≡ total (left h) (t.before ++ t.node ∷ t.behind) = ap (total (left h)) run.0 in
    ⊎_elim
    (λ (c : Comes t.node t.outcome). inl (t, inl refl, c))
    (λ (r : Turns w t.node t.outcome ⊎ Takes w t.node t.outcome).
    ⊎_elim
    (λ (r : Turns w t.node t.outcome).
    let fits_next = each_join (Fits h) t.before (after t.node t.outcome) t.behind old.0 r.2 old.2 in
    let heads_next : (x : State) → Has x v.heads → x.moment ≤ v.held.moment =
    λ x i. subst (λ (z : State). x.moment ≤ z.moment) (sym r.0) (heads x (subst (λ (z : List State). Has x z) r.1 i)) in
    ⊎_elim
    (λ (f : SomeNodeAnswers ts). inl (comes_later t ts f))
    (λ (m : length ts < total (left v.held) next).
    let m2 : length ts < total (left h) next = subst (λ (z : State). length ts < total (left z) next) r.0 m in
    let c = total_split (left h) t.before (after t.node t.outcome) t.behind in
    let near = r.3 in
    inr (omega (arith, m2, a, c, e, near)))
    (go ts v next (longer t.before (after t.node t.outcome) t.behind) heads_next (subst (λ (z : State). Each (Fits z) next) (sym r.0) fits_next) run.2))
    (λ (r : Takes w t.node t.outcome).
    let before_next = each_to (Fits h) (FitsThen v.held) (fits_on h v.held r.0) t.before old.0 in
    let behind_next = each_to (Fits h) (FitsThen v.held) (fits_on h v.held r.0) t.behind old.2 in
    let fits_next = each_join (FitsThen v.held) t.before (after t.node t.outcome) t.behind before_next r.2 behind_next in
    let lt = r.0 in
    let heads_next : (x : State) → Has x v.heads → x.moment < v.held.moment =
    λ x i. let le = heads x (subst (λ (z : List State). Has x z) r.1 i) in omega (arith, le, lt) in
    ⊎_elim
    (λ (f : SomeNodeAnswers ts). inl (comes_later t ts f))
    (λ (m : length ts ≤ total (left_then v.held) next).
    let c = total_split (left_then v.held) t.before (after t.node t.outcome) t.behind in
    let p = total_least (Fits h) (left_then v.held) (left h) (λ s f. left_on h v.held s) t.before old.0 in
    let q = total_least (Fits h) (left_then v.held) (left h) (λ s f. left_on h v.held s) t.behind old.2 in
    let near = r.3 in
    inr (omega (arith, m, a, c, e, p, q, near)))
    (go_then ts v next heads_next fits_next run.2))
    r)
    (turn w t.node t.outcome old.1 run.1)

-- ---- what nodes know at first
up_to : (count : State → ℕ) (w : World) (k : State) → IsSoundWorld count w → Has k w.past → IsUpTo w.held k
up_to count w k s h =
    ⊎_elim
    (λ (e : k ≡ w.held). inl e)
    (λ (o : k.moment ≤ w.held.before). let lt = s.later in inr (omega (arith, o, lt)))
    (s.order k h)

up_to_le : (h k : State) → IsUpTo h k → k.moment ≤ h.moment
up_to_le h k u =
    ⊎_elim
    (λ (e : k ≡ h). let m : k.moment ≡ h.moment = ap (λ (z : State). z.moment) e in omega (arith, m))
    (λ (o : k.moment < h.moment). omega (arith, o))
    u

may_follow : (k l : State) → (l.before ≡ k.moment) × (k.moment < l.moment) → follows k l ≡ true
may_follow k l m =
    let p : (l.before == k.moment) ≡ true = eq-eqb l.before k.moment m.0 in
    subst (λ t. (t && nat_lt k.moment l.moment) ≡ true) (sym p) (lt-ltb k.moment l.moment m.1)

fits_given : (count : State → ℕ) (b : State) (w : World) (s : Node) → IsSoundWorld count w → Knows count b w s → Fits w.held s
unfolding Fits
fits_given count b w Reading sound k = tt
fits_given count b w (Looking l) sound k = up_to count w l sound k
fits_given count b w (Stepping l) sound k = up_to count w l sound k.0
fits_given count b w (Staging l m n) sound k = (up_to count w l sound k.0.0, may_follow l m k.1)
fits_given count b w (Swapping l m n) sound k = (up_to count w l sound k.0.0, may_follow l m k.1)
fits_given count b w (Deleting l m) sound k = up_to count w l sound k.0.0
fits_given count b w (Putting l n) sound k = tt
fits_given count b w (Placing l) sound k = tt
fits_given count b w (Heading l) sound k = tt
fits_given count b w (Answering l) sound k = tt

left_most : (h : State) (s : Node) → left h s ≤ 13
unfolding left
left_most h Reading = omega arith
left_most h (Looking k) = let z = late_most h k in omega (arith, z)
left_most h (Stepping k) = let z = late_most h k in omega (arith, z)
left_most h (Staging k l n) = let z = late_most h k in omega (arith, z)
left_most h (Swapping k l n) = let z = late_most h k in omega (arith, z)
left_most h (Deleting k l) = let z = late_most h k in omega (arith, z)
left_most h (Putting l n) = omega arith
left_most h (Placing l) = omega arith
left_most h (Heading l) = omega arith
left_most h (Answering l) = omega arith

-- if less outcomes are left than there were, some node came to its answer
came : (count : State → ℕ) (b : State) (w : World) (nodes : List Node) (ts : List Turn) (most : ℕ) → Kept count b w → 0 < length nodes
    → ((s : Node) → Has s nodes → Has s w.sent) → ((s : Node) → Has s nodes → left w.held s ≤ most) → AreWithoutFailure w nodes ts
    → most * length nodes ≤ length ts → SomeNodeAnswers ts
came count b w nodes ts most kept some given few run many =
    let fits = each_of (Fits w.held) nodes (λ s h. fits_given count b w s kept.sound (kept.sent s (given s h))) in
    let m = total_most (left w.held) most nodes (each_of (λ s. left w.held s ≤ most) nodes few) in
    ⊎_elim
    (λ (f : SomeNodeAnswers ts). f)
    (λ (l : length ts < total (left w.held) nodes). absurd (omega (arith, l, m, many)))
    (go ts w nodes some (λ x h. up_to_le w.held x (up_to count w x kept.sound (kept.sound.heads x h))) fits run)

nine : (h : State) (s : Node) → s ≡ Reading → left h s ≤ 9
unfolding left
nine h s e = subst (λ z. left h z ≤ 9) (sym e) (omega arith)

pub started_nodes_answer : StartedNodesAnswer
started_nodes_answer count b hs w i m nodes ts some reading run many =
    let kept = is_kept count b hs w i m in
    came count b w nodes ts 9 kept some (λ s h. subst (λ z. Has z w.sent) (sym (reading s h)) kept.reads) (λ s h. nine w.held s (reading s h)) run many

pub nodes_answer_again : NodesAnswerAgain
nodes_answer_again count b hs w i m nodes ts some given run many =
    came count b w nodes ts 13 (is_kept count b hs w i m) some given (λ s h. left_most w.held s) run many
