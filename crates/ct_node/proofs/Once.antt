-- The log of the lock's line has each new identity once.
use Rattle.std.proofs.Common.{◌≡◌, ◌∙◌, ◌⊎◌, ⊎_elim, inl, inr, refl, sym, ap, subst, ℕ, zero, suc, ◌<◌, List, [], ◌∷◌, ◌++◌, length, take, map, get_or, All, AllPairs, arith, append_assoc, append-nil}
use Rattle.std.specs.Prelude.{Contains}
use Rattle.std.proofs.lemmas.List.{take_at, map-append, length-map}
use Rattle.std.proofs.lemmas.List.Elements.{All-nil, All-head, All-tail, All-append}
use Rattle.ct_codec.specs.Submitted.{Submitted, identity_of}
use Rattle.ct_data_tiles.specs.TileLeaf.{Tiled, leaf_of}
use Rattle.ct_step.specs.Identities.{identity_of_leaf, LeavesKeepIdentities, AreApart, AreNewFrom}
use Rattle.ct_step.proofs.Lists.{AllPairs-first, AllPairs-rest, AllPairs-append, pairs_behind}
use Rattle.ct_step.specs.declared.line.StateLine.{StateLine}
use Rattle.ct_verify.specs.Hashed.{CollideAmong}
use Rattle.ct_node.specs.declared.state.State.{State}
use Rattle.ct_node.specs.Worlds.{Has, Made, IsChain, PastsAreChains, HoldsNewest}
use Rattle.ct_node.specs.LookUps.{ShareNone, StatesAddOthers}
use Rattle.ct_step.specs.Entries.{tiled_leaves, tree_leaves}
use Rattle.ct_step.proofs.LinesAgree.{met_before}
use Rattle.ct_step.specs.Lines.{LineAttempt, IsHashedBySteps}
use Rattle.ct_step.specs.Steps.{new_entries, IsHashedOfLog, IsLog, IsTiledStep}
use Rattle.ct_node.specs.Logs.{IsAttempt, log_of_past}
use Rattle.ct_node.specs.Once.{entry_identities, batch_identities, AreStepsAdding, NodesAddOnce}

-- ---- lists
get_has : {A : Type 0} (xs : List A) (k : ℕ) (d : A) → k < length xs → Has (get_or xs k d) xs
get_has [] k d b = absurd (omega (arith, b))
get_has (x ∷ xs) zero d b = inl refl
get_has (x ∷ xs) (suc k) d b = inr (get_has xs k d (omega (arith, b)))

list_all : {A : Type 0} (P : A → Type 0) (xs : List A) → ((x : A) → Has x xs → P x) → All P xs
list_all P xs f = λ k d h. f (get_or xs k d) (get_has xs k d h)

of_all : {A : Type 0} (P : A → Type 0) (xs : List A) (x : A) → All P xs → Has x xs → P x
of_all P [] x all h = absurd h
of_all P (y ∷ ys) x all (inl e) = subst P (sym e) (All-head P y ys all)
of_all P (y ∷ ys) x all (inr h) = of_all P ys x (All-tail P y ys all) h

abbrev Differ : List ℕ → List ℕ → Type 0
Differ x y = ¬ (x ≡ y)

-- ---- identities
new_identities : LeavesKeepIdentities → (t i : ℕ) (batch : List (Submitted × List (List ℕ)))
    → entry_identities (tiled_leaves t i batch) ≡ map (λ e. identity_of e.0) batch
unfolding tiled_leaves
new_identities keep t i [] = refl
new_identities keep t i (e ∷ batch) =
    ap (λ (x : List ℕ). x ∷ entry_identities (tiled_leaves t (suc i) batch)) (keep t i e.0)
    ∙ ap (λ (l : List (List ℕ)). identity_of e.0 ∷ l) (new_identities keep t (suc i) batch)

entries-append : (E N : List Tiled) → entry_identities (E ++ N) ≡ entry_identities E ++ entry_identities N
entries-append E N = ap (map identity_of_leaf) (map-append leaf_of E N) ∙ map-append identity_of_leaf (tree_leaves E) (tree_leaves N)

module _ (H : List ℕ → List ℕ) (S : List (List ℕ)) (line : State → StateLine) (step : Made → LineAttempt) (ids : State → List (List ℕ)) (b : State)
    (made : List Made) (steps : AreStepsAdding H S line step ids made) where
  abbrev Adds : State → State → Type 0
  Adds l k = ShareNone (ids k) (ids l)

  -- the identities that the states after the first one add, in order
  added : List State → List (List ℕ)
  added [] = []
  added (l ∷ []) = []
  added (l ∷ k ∷ rest) = added (k ∷ rest) ++ ids l

  module _ (known E : List Tiled) where
    abbrev Grown : State → List State → Type 0
    Grown l past =
        ((Z : List Tiled) × (log_of_past step known past ≡ known ++ Z) × IsLog H (log_of_past step known past) (line l) × (entry_identities Z ≡ added past))
        ⊎ CollideAmong H (IsHashedBySteps H S E)

    grown : LeavesKeepIdentities → (l : State) (past : List State) → IsLog H known (line b) → IsChain b made (l ∷ past)
        → (Z : List Tiled) → E ≡ log_of_past step known (l ∷ past) ++ Z → Grown l (l ∷ past)
    unfolding IsChain added log_of_past
    grown keep l [] log c Z all = inl ([], sym (append-nil known), subst (λ (z : State). IsLog H known (line z)) (sym c) log, refl)
    grown keep l (k ∷ rest) log c Z all =
        let a : LineAttempt = step (record { seen = k; new = l }) in
        let s = steps (record { seen = k; new = l }) c.0 in
        let before : List Tiled = log_of_past step known (k ∷ rest) in
        let N : List Tiled = new_entries before a.batch a.now in
        let longer : E ≡ before ++ (N ++ Z) = all ∙ append_assoc before N Z in
        ⊎_elim
        (λ (behind : (Y : List Tiled) × (before ≡ known ++ Y) × IsLog H before (line k) × (entry_identities Y ≡ added (k ∷ rest))).
        let here : IsLog H before a.seen = subst (IsLog H before) (sym s.0.0) behind.2 in
        ⊎_elim
        (λ (p : IsTiledStep H a.seen before a.batch a.now a.step).
        inl (
          behind.0 ++ N,
          ap (λ (X : List Tiled). X ++ N) behind.1 ∙ append_assoc known behind.0 N,
          subst (λ (z : StateLine). IsLog H (before ++ N) z) s.0.1 p.log,
          entries-append behind.0 N ∙ ap (λ x. x ++ entry_identities N) behind.3
              ∙ ap (λ x. added (k ∷ rest) ++ x) (new_identities keep a.now (length before) a.batch ∙ s.1),
        ))
        (λ (pair : CollideAmong H (λ x. Contains S x ⊎ IsHashedOfLog H before x)). inr (met_before H S E before (N ++ Z) longer pair))
        (s.0.2.2 before here))
        (λ (pair : CollideAmong H (IsHashedBySteps H S E)). inr pair)
        (grown keep k rest log c.1 (N ++ Z) longer)

  -- a property of each state's identities holds for all identities that are added
  of_added : (P : List ℕ → Type 0) (past : List State) → ((x : State) → Has x past → (i : List ℕ) → Has i (ids x) → P i) → All P (added past)
  unfolding added
  of_added P [] f = All-nil P
  of_added P (l ∷ []) f = All-nil P
  of_added P (l ∷ k ∷ rest) f =
      All-append P (added (k ∷ rest)) (ids l) (of_added P (k ∷ rest) (λ x h. f x (inr h))) (list_all P (ids l) (f l (inl refl)))

  -- an identity of the one state differs from those of the other
  differ : (x l : State) (i : List ℕ) → Adds l x → Has i (ids x) → All (Differ i) (ids l)
  differ x l i others h = list_all (Differ i) (ids l) (λ j g e. others i h (subst (λ z. Has z (ids l)) (sym e) g))

  apart : (past : List State) → IsChain b made past → AllPairs Adds past → AreApart (added past)
  unfolding IsChain added
  apart [] c p = absurd c
  apart (l ∷ []) c p = λ i j d less h. absurd (omega (arith, less, h))
  apart (l ∷ k ∷ rest) c p =
      let before : All (Adds l) (k ∷ rest) = AllPairs-first Adds l (k ∷ rest) p in
      AllPairs-append Differ (added (k ∷ rest)) (ids l) (apart (k ∷ rest) c.1 (AllPairs-rest Adds l (k ∷ rest) p))
      (steps (record { seen = k; new = l }) c.0).2
      (of_added (λ i. All (Differ i) (ids l)) (k ∷ rest) (λ x h i g. differ x l i (of_all (Adds l) (k ∷ rest) x before h) g))

  has_first : (past : List State) → IsChain b made past → Has b past
  unfolding IsChain
  has_first [] c = absurd c
  has_first (l ∷ []) c = inl (sym c)
  has_first (l ∷ k ∷ rest) c = inr (has_first (k ∷ rest) c.1)

  -- an identity of the first state differs from each one that is added
  known_before : (past : List State) → IsChain b made past → AllPairs Adds past → (i : List ℕ) → Has i (ids b) → All (Differ i) (added past)
  unfolding IsChain added
  known_before [] c p i h = absurd c
  known_before (l ∷ []) c p i h = All-nil (Differ i)
  known_before (l ∷ k ∷ rest) c p i h =
      All-append (Differ i) (added (k ∷ rest)) (ids l) (known_before (k ∷ rest) c.1 (AllPairs-rest Adds l (k ∷ rest) p) i h)
      (differ b l i (of_all (Adds l) (k ∷ rest) b (AllPairs-first Adds l (k ∷ rest) p) (has_first (k ∷ rest) c.1)) h)

pub nodes_add_once : PastsAreChains → HoldsNewest → StatesAddOthers → LeavesKeepIdentities → NodesAddOnce
nodes_add_once chains newest others keep H S line step ids known count b hs w begins leads log first steps looks E whole =
    let K : List (List ℕ) = entry_identities known in
    let n = newest count b hs w begins leads in
    let past : List State = w.held ∷ n.0 in
    let end : E ≡ log_of_past step known past = whole ∙ ap (log_of_past step known) n.1 in
    let chain : IsChain b w.made past = subst (λ (z : List State). IsChain b w.made z) n.1 (chains count b hs w begins leads) in
    let pairs : AllPairs (λ l k. ShareNone (ids k) (ids l)) past =
    subst (λ (z : List State). AllPairs (λ l k. ShareNone (ids k) (ids l)) z) n.1 (others count b hs w begins leads ids looks) in
    let I : List (List ℕ) = added H S line step ids b w.made steps past in
    ⊎_elim
    (λ (all : (Z : List Tiled) × (log_of_past step known past ≡ known ++ Z) × IsLog H (log_of_past step known past) (line w.held) × (entry_identities Z ≡ I)).
    let joined : E ≡ known ++ all.0 = end ∙ all.1 in
    let same : entry_identities E ≡ K ++ I = ap entry_identities joined ∙ entries-append known all.0 ∙ ap (λ x. K ++ x) all.3 in
    let across : All (λ x. All (Differ x) I) K =
    list_all (λ x. All (Differ x) I) K
    (λ i h. known_before H S line step ids b w.made steps past chain pairs i (subst (λ z. Has i z) (sym first) h)) in
    let size : length K ≡ length known = length-map (tree_leaves known) identity_of_leaf ∙ length-map known leaf_of in
    inl (
      subst (λ (X : List Tiled). IsLog H X (line w.held)) (sym end) all.2,
      sym (take_at known all.0 (length known) refl) ∙ ap (take (length known)) (sym joined),
      subst (AreNewFrom (length known)) (sym same)
          (λ i j d l n h. pairs_behind Differ K I (apart H S line step ids b w.made steps past chain pairs) across i j d l (omega (arith, n, size)) h),
    ))
    (λ (pair : CollideAmong H (IsHashedBySteps H S E)). inr pair)
    (grown H S line step ids b w.made steps known E keep w.held n.0 log chain [] (end ∙ sym (append-nil (log_of_past step known past))))
