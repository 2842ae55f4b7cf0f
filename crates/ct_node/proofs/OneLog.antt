-- The states that the lock took, as attempts.
use Rattle.std.proofs.Common.{map, refl, subst, ◌⊎◌, inl, inr, ⊎_elim, ◌≡◌, ℕ, ◌<◌, arith, sym, ◌∙◌, ap, List, [], ◌∷◌, ◌++◌, length, take}
use Rattle.std.specs.Prelude.{Ok, ⊤, Bool, true, false, if◌then◌else◌, Contains}
use Rattle.std.proofs.lemmas.List.Elements.{recursion_from_All}
use Rattle.std.specs.List.{AllByRecursion}
use Rattle.ct_data_tiles.specs.TileLeaf.{Tiled}
use Rattle.ct_step.specs.declared.line.StateLine.{StateLine}
use Rattle.ct_verify.proofs.Agreeing.{one_hash}
use Rattle.ct_verify.specs.Hashed.{CollideAmong}
use Rattle.ct_node.specs.declared.state.State.{State}
use Rattle.ct_node.specs.Worlds.{Has, Made, Object, World, IsChain, IsSoundWorld, WorldsAreSound, PastsAreChains}
use Rattle.ct_step.specs.Bundle.{IsBundleOf}
use Rattle.ct_step.specs.Resumed.{BundlesAreResumed, object_parts}
use Rattle.ct_step.specs.Lines.{LineAttempt, IsMadeOfLine, AreLineAttempts, LineSequencersAgree, entries_after, IsHashedBySteps, taken_lines, IsStepOf, CarryOnLines}
use Rattle.ct_step.specs.Steps.{new_entries}
use Rattle.ct_node.specs.Logs.{IsAttempt, AreStepsMade, IsOf, IsResumed, log_of_past, NodesWriteOneLog}
use Rattle.ct_node.specs.Names.{objects_of, IsTileOfEntries, StepsWriteTiles, StepsHaveOneContent}

-- the attempt, marked as taken by the lock
abbrev took : LineAttempt → LineAttempt
took a = record a { took = true }

abbrev IsNoTrue : Bool → Type 0
IsNoTrue true = ⊥
IsNoTrue false = ⊤

pick : {A : Type 0} (t : Bool) → t ≡ true → (y z : A) → (if t then y else z) ≡ y
pick true e y z = refl
pick false e y z = absurd (subst IsNoTrue e tt)

-- the line that is held after attempts that were all taken
end_of : StateLine → List LineAttempt → StateLine
end_of held [] = held
end_of held (a ∷ rest) = end_of a.step.line rest

-- a step that was taken belongs to E also without that mark
of_took : (H : List ℕ → List ℕ) (E : List Tiled) (a : LineAttempt) → IsStepOf H E (took a) → IsStepOf H E a
of_took H E a s = record { size = s.size; log = s.log; step = s.step; entries = s.entries }

-- the entries after one more attempt, which was taken
entries_more : (known : List Tiled) (xs : List LineAttempt) (a : LineAttempt)
    → entries_after known (xs ++ took a ∷ []) ≡ entries_after known xs ++ new_entries (entries_after known xs) a.batch a.now
unfolding entries_after
entries_more known [] a = refl
entries_more known (x ∷ rest) a = entries_more (if x.took then known ++ new_entries known x.batch x.now else known) rest a

module _ (H : List ℕ → List ℕ) (S : List (List ℕ)) where
  -- attempts that were all taken, one after the other
  AreTaken : StateLine → List LineAttempt → Type 0
  AreTaken held [] = ⊤
  AreTaken held (a ∷ rest) = IsMadeOfLine H S a × (a.took ≡ true) × (a.seen ≡ held) × AreTaken a.step.line rest

  are_attempts : (held : StateLine) (xs : List LineAttempt) → AreTaken held xs → AreLineAttempts H S held xs
  unfolding AreTaken AreLineAttempts
  are_attempts held [] t = tt
  are_attempts held (a ∷ rest) t = (t.0, inl (t.1, t.2, are_attempts a.step.line rest t.3))

  taken_more : (held : StateLine) (xs : List LineAttempt) (a : LineAttempt) → AreTaken held xs → a.seen ≡ end_of held xs → IsMadeOfLine H S a
      → AreTaken held (xs ++ took a ∷ [])
  unfolding AreTaken end_of
  taken_more held [] a t e m = (m, refl, e, tt)
  taken_more held (x ∷ rest) a t e m = (t.0, t.1, t.2, taken_more x.step.line rest a t.3 e m)

  end_more : (held : StateLine) (xs : List LineAttempt) (a : LineAttempt) → end_of held (xs ++ took a ∷ []) ≡ a.step.line
  unfolding end_of
  end_more held [] a = refl
  end_more held (x ∷ rest) a = end_more x.step.line rest a

  all_taken : (held : StateLine) (xs : List LineAttempt) → AreTaken held xs → taken_lines xs ≡ xs
  unfolding AreTaken
  all_taken held [] t = refl
  all_taken held (a ∷ rest) t =
      pick a.took t.1 (a ∷ taken_lines rest) (taken_lines rest) ∙ ap (λ v. a ∷ v) (all_taken a.step.line rest t.3)

  -- S contains the staged batch of each of them
  bundle_of : (held : StateLine) (xs : List LineAttempt) → AreTaken held xs → (a : LineAttempt) → Has a xs → Contains S a.step.bundle.items
  unfolding AreTaken
  bundle_of held [] t a h = absurd h
  bundle_of held (x ∷ rest) t a (inl e) = subst (λ (y : LineAttempt). Contains S y.step.bundle.items) (sym e) t.0.1
  bundle_of held (x ∷ rest) t a (inr h) = bundle_of x.step.line rest t.3 a h

  has_more : (xs : List LineAttempt) (a : LineAttempt) → Has a (xs ++ a ∷ [])
  has_more [] a = inl refl
  has_more (x ∷ rest) a = inr (has_more rest a)

  has_still : (xs : List LineAttempt) (a z : LineAttempt) → Has z xs → Has z (xs ++ a ∷ [])
  has_still [] a z h = absurd h
  has_still (x ∷ rest) a z (inl e) = inl e
  has_still (x ∷ rest) a z (inr h) = inr (has_still rest a z h)

  all_or : (T : List ℕ → Type 0) (P : State → Type 0) (xs : List State) → ((l : State) → Has l xs → P l ⊎ CollideAmong H T)
      → ((l : State) → Has l xs → P l) ⊎ CollideAmong H T
  all_or T P [] f = inl (λ l h. absurd h)
  all_or T P (x ∷ rest) f =
      ⊎_elim
      (λ (p : P x).
      ⊎_elim
      (λ (q : (l : State) → Has l rest → P l). inl (λ l h. ⊎_elim (λ (e : l ≡ x). subst P (sym e) p) (λ (i : Has l rest). q l i) h))
      (λ (pair : CollideAmong H T). inr pair)
      (all_or T P rest (λ l h. f l (inr h))))
      (λ (pair : CollideAmong H T). inr pair)
      (f x (inl refl))

  each : (P : LineAttempt → Type 0) (xs : List LineAttempt) (a : LineAttempt) → AllByRecursion P xs → Has a xs → P a
  each P [] a r h = absurd h
  each P (x ∷ rest) a r (inl e) = subst P (sym e) r.0
  each P (x ∷ rest) a r (inr h) = each P rest a r.1 h

  module _ (line : State → StateLine) (step : Made → LineAttempt) (count : State → ℕ) (plan : Object → List ℕ × List ℕ) (b : State) (made : List Made)
      (steps : AreStepsMade H S line step count plan made) where
    -- the state is the first one, or that of one of the attempts
    abbrev IsIn : List LineAttempt → State → Type 0
    IsIn xs l = (l ≡ b) ⊎ ((m : Made) × Has m made × (m.new ≡ l) × Has (took (step m)) xs)

    -- The states are those of attempts, one after the other. After these attempts the entries are those of the log. The newest state is l.
    abbrev Are : List Tiled → List State → State → Type 0
    Are known past l =
        (xs : List LineAttempt) × AreTaken (line b) xs × (end_of (line b) xs ≡ line l) × ((z : State) → Has z past → IsIn xs z)
        × (entries_after known xs ≡ log_of_past step known past)

    longer : (known : List Tiled) (k l : State) (rest : List State) → Are known (k ∷ rest) k → Has (record { seen = k; new = l }) made
        → Are known (l ∷ k ∷ rest) l
    unfolding log_of_past
    longer known k l rest p h =
        let a : LineAttempt = step (record { seen = k; new = l }) in
        let i = (steps (record { seen = k; new = l }) h).0 in (
          p.0 ++ took a ∷ [],
          taken_more (line b) p.0 a p.1 (i.0 ∙ sym p.2) i.2,
          end_more (line b) p.0 a ∙ i.1,
          λ z in_past.
              ⊎_elim
              (λ (e : z ≡ l). inr (record { seen = k; new = l }, h, sym e, has_more p.0 (took a)))
              (λ (j : Has z (k ∷ rest)).
              ⊎_elim
              (λ (e : z ≡ b). inl e)
              (λ (y : (m : Made) × Has m made × (m.new ≡ z) × Has (took (step m)) p.0).
              inr (y.0, y.1, y.2, has_still p.0 (took a) (took (step y.0)) y.3))
              (p.3 z j))
              in_past,
          entries_more known p.0 a ∙ ap (λ (E : List Tiled). E ++ new_entries E a.batch a.now) p.4,
        )

    alone : (known : List Tiled) (l : State) → l ≡ b → Are known (l ∷ []) l
    unfolding AreTaken end_of entries_after log_of_past
    alone known l e = ([], tt, ap line (sym e), (λ z h. ⊎_elim (λ (f : z ≡ l). inl (f ∙ e)) (λ (y : ⊥). absurd y) h), refl)

    chained : (known : List Tiled) (l : State) (past : List State) → IsChain b made (l ∷ past) → Are known (l ∷ past) l
    unfolding IsChain
    chained known l [] c = alone known l c
    chained known l (k ∷ rest) c = longer known k l rest (chained known k rest c.1) c.0

    some : (known : List Tiled) (past : List State) → IsChain b made past → (l : State) × Are known past l
    unfolding IsChain
    some known [] c = absurd c
    some known (l ∷ past) c = (l, chained known l past c)

    -- the state is the first one, or that of an attempt of the log, whose objects are put
    abbrev PutOfStep : List Tiled → State → Type 0
    PutOfStep E l =
        (m : Made) × Has m made × (m.new ≡ l) × ((step m).step.line ≡ line l) × IsStepOf H E (step m)
        × ((i : ℕ) → i < count l → Has (plan (record { state = l; index = i })) (objects_of H E (step m)))

    abbrev IsPut : List Tiled → State → Type 0
    IsPut E l = (l ≡ b) ⊎ PutOfStep E l

    -- the objects that are put of a state are the step's objects, or its staged batch and the bytes that were read collide
    resumed : BundlesAreResumed → (E : List Tiled) (l : State) (m : Made) → Has m made → m.new ≡ l → Contains S (step m).step.bundle.items
        → IsStepOf H E (step m) → IsPut E l ⊎ CollideAmong H (IsHashedBySteps H S E)
    resumed again E l m h new kept s =
        let a : LineAttempt = step m in
        let e : a.step.line ≡ line l = (steps m h).0.1 ∙ ap line new in
        let p : IsResumed H S line count plan l = subst (λ y. IsResumed H S line count plan y) new (steps m h).1 in
        let digest : (line l).bundle ≡ H a.step.bundle.items = sym (ap (λ (z : StateLine). z.bundle) e) ∙ s.step.digest in
        ⊎_elim
        (λ (same : p.0 ≡ a.step.bundle.items).
        let found : map object_parts p.1.items ≡ objects_of H E a =
        again H (line l) (objects_of H E a) p.0 (Ok p.1) (subst (λ v. IsBundleOf (objects_of H E a) v) (sym same) s.step.bundle)
        (digest ∙ ap H (sym same)) p.3 in
        inl (inr (m, h, new, e, s, λ i c. subst (λ v. Has (plan (record { state = l; index = i })) v) found (p.4 i c))))
        (λ (pair : CollideAmong H (IsHashedBySteps H S E)). inr pair)
        (one_hash H (IsHashedBySteps H S E) p.0 a.step.bundle.items (inl p.2) (inl kept) (p.3.0 ∙ digest))

    are_tiles : StepsWriteTiles → (E : List Tiled) (w : World) → count b ≡ 0 → IsSoundWorld count w → ((l : State) → Has l w.past → IsPut E l)
        → (o : Object) → Has o w.objects → IsTileOfEntries H E (plan o)
    are_tiles tiles E w none s put o ho =
        let x = s.objects o ho in
        ⊎_elim
        (λ (f : o.state ≡ b). let n : count o.state ≡ count b = ap count f in absurd (omega (arith, n, none, x.1)))
        (λ (c : PutOfStep E o.state). tiles H E (step c.0) c.4 (plan o) (c.5 o.index x.1))
        (put o.state x.0)

    one_content : StepsHaveOneContent → (E : List Tiled) (w : World) → count b ≡ 0 → IsSoundWorld count w → ((l : State) → Has l w.past → IsPut E l)
        → (o p : Object) → Has o w.objects → Has p w.objects → (plan o).0 ≡ (plan p).0 → (plan o).1 ≡ (plan p).1
    one_content contents E w none s put o p ho hp e =
        let x = s.objects o ho in
        let y = s.objects p hp in
        ⊎_elim
        (λ (f : o.state ≡ b). let n : count o.state ≡ count b = ap count f in absurd (omega (arith, n, none, x.1)))
        (λ (c : PutOfStep E o.state).
        ⊎_elim
        (λ (f : p.state ≡ b). let n : count p.state ≡ count b = ap count f in absurd (omega (arith, n, none, y.1)))
        (λ (d : PutOfStep E p.state).
        contents H E (step c.0) (step d.0) c.4 d.4 (plan o) (plan p) (c.5 o.index x.1) (d.5 p.index y.1) e)
        (put p.state y.0))
        (put o.state x.0)

pub nodes_write_one_log : LineSequencersAgree → WorldsAreSound → PastsAreChains → StepsWriteTiles → StepsHaveOneContent → BundlesAreResumed → NodesWriteOneLog
nodes_write_one_log agree sound chains tiles contents again H S line step plan known count b hs w begins leads is steps E all =
    let T : List ℕ → Type 0 = IsHashedBySteps H S E in
    let s : IsSoundWorld count w = sound count b hs w begins leads in
    let q = (some H S line step count plan b w.made steps known w.past (chains count b hs w begins leads)).1 in
    let xs : List LineAttempt = q.0 in
    ⊎_elim
    (λ (r : (known ≡ take (length known) E) × CarryOnLines H (line b).timestamp E (taken_lines xs)).
    let each_of : AllByRecursion (IsStepOf H E) xs =
    subst (AllByRecursion (IsStepOf H E)) (all_taken H S (line b) xs q.1) (recursion_from_All (IsStepOf H E) (taken_lines xs) r.1.all) in
    ⊎_elim
    (λ (put : (l : State) → Has l w.past → IsPut H S line step count plan b w.made steps E l).
    let past : (l : State) → Has l w.past → IsOf H line step w.made b E l =
    λ l h.
    ⊎_elim
    (λ (e : l ≡ b). inl e)
    (λ (y : PutOfStep H S line step count plan b w.made steps E l). inr (y.0, y.1, y.2, y.3, y.4))
    (put l h) in
    inl (
      r.0,
      record {
        past = past;
        answered = λ l h. (s.answered l h, past l (s.heads l (s.answered l h)));
        tiles = are_tiles H S line step count plan b w.made steps tiles E w begins.0 s put;
        names = one_content H S line step count plan b w.made steps contents E w begins.0 s put;
      },
    ))
    (λ (pair : CollideAmong H T). inr pair)
    (all_or H S T (IsPut H S line step count plan b w.made steps E) w.past
    (λ l h.
    ⊎_elim
    (λ (e : l ≡ b). inl (inl e))
    (λ (y : (m : Made) × Has m w.made × (m.new ≡ l) × Has (took (step m)) xs).
    resumed H S line step count plan b w.made steps again E l y.0 y.1 y.2 (bundle_of H S (line b) xs q.1 (took (step y.0)) y.3)
    (of_took H E (step y.0) (each H S (IsStepOf H E) xs (took (step y.0)) each_of y.3)))
    (q.3 l h))))
    (λ (pair : CollideAmong H T). inr pair)
    (agree H S (line b) known xs is (are_attempts H S (line b) xs q.1) E (all ∙ sym q.4))
