-- The invariant that holds whatever happens.
use Rattle.std.proofs.Common.{refl, subst, ◌⊎◌, inl, inr, ⊎_elim, ◌≡◌, ℕ, zero, suc, ◌+◌, ◌<◌, ◌≤◌, sym, ◌∙◌, ap, arith, eqb-true, eq-eqb, ltb-true, ltb-false, List, [], ◌∷◌}
use Rattle.std.specs.Prelude.{⊤, Bool, true, false, not, ◌&&◌, ◌==◌, nat_lt, if◌then◌else◌}
use Rattle.ct_node.specs.declared.state.State.{State}
use Rattle.ct_node.specs.declared.node.Node.{Node}
use Rattle.ct_node.specs.declared.node.Node.TheVariants.{Reading, Looking, Stepping, Staging, Swapping, Deleting, Putting, Placing, Heading, Answering}
use Rattle.ct_node.specs.declared.node.Outcome.{Outcome}
use Rattle.ct_node.specs.declared.node.Outcome.TheVariants.{Done, Lost, Read, Published, Bundle, Stepped, Listed}
use Rattle.ct_node.specs.Nodes.{after, follows, is_behind, on_reading, on_looking, on_stepping, on_staging, on_swapping, on_deleting, on_putting, on_placing, on_heading, on_answering}
use Rattle.ct_node.specs.Worlds.{Has, Object, Made, World, beginning, Happening, Comes, Makes, Puts, Goes, Told, IsChain, PastsAreChains, StepsFindAll, CanBePublished, comes, happens, MayCome, MayBeTold, MayHappen, LeadTo, IsSoundWorld, IsFirstState, WorldsAreSound, HeadsAreWhole, NamesHaveOneContent, HoldsNewest, StagedStand, AskedAreTaken}

-- the object at an index of a state's staged batch
abbrev pub at : State → ℕ → Object
at l i = record { state = l; index = i }

-- a step
abbrev pub step : State → State → Made
step k l = record { seen = k; new = l }

-- ---- chains
pub IsNewest : State → List State → Type 0
IsNewest h [] = ⊥
IsNewest h (l ∷ rest) = h ≡ l

chain_on : (b : State) (made more : List Made) (past : List State) → ((s : Made) → Has s made → Has s more) → IsChain b made past → IsChain b more past
unfolding IsChain
chain_on b made more [] f c = c
chain_on b made more (l ∷ []) f c = c
chain_on b made more (l ∷ k ∷ rest) f c = (f (step k l) c.0, chain_on b made more (k ∷ rest) f c.1)

chain_longer : (b : State) (made : List Made) (past : List State) (h l : State) → IsNewest h past → Has (step h l) made → IsChain b made past → IsChain b made (l ∷ past)
unfolding IsChain IsNewest
chain_longer b made [] h l n m c = absurd n
chain_longer b made (k ∷ rest) h l n m c = (subst (λ z. Has (step z l) made) n m, c)

same_newest : (l : State) (past : List State) → IsNewest l (l ∷ past)
unfolding IsNewest
same_newest l past = refl

chain_one : (b : State) → IsChain b [] (b ∷ [])
unfolding IsChain
chain_one b = refl

-- ---- tests
abbrev IsNoTrue : Bool → Type 0
IsNoTrue true = ⊥
IsNoTrue false = ⊤

no_false : false ≡ true → ⊥
no_false q = subst IsNoTrue q tt

pub and_true : (a b : Bool) → (a && b) ≡ true → (a ≡ true) × (b ≡ true)
and_true true b q = (refl, q)
and_true false b q = absurd (no_false q)

lt_or_same : (j i : ℕ) → j < i + 1 → (j < i) ⊎ (j ≡ i)
lt_or_same j i b =
    elim (nat_lt j i) as (λ t. nat_lt j i ≡ t → (j < i) ⊎ (j ≡ i)) [
      | true ↦ λ q. inl (ltb-true j i q)
      | false ↦ λ q. inr (omega (arith, ltb-false j i q, b))
    ] refl

not_both : (a : Bool) → a ≡ true → not a ≡ true → ⊥
not_both true p q = no_false q
not_both false p q = no_false p

same_state : (l k : State) → l ≡ k → (l.moment == k.moment && l.salt == k.salt) ≡ true
same_state l k e =
    let p : (k.moment == k.moment) ≡ true = eq-eqb k.moment k.moment refl in
    let q : (k.salt == k.salt) ≡ true = eq-eqb k.salt k.salt refl in
    subst
    (λ z. (z.moment == k.moment && z.salt == k.salt) ≡ true)
    (sym e)
    (subst (λ t. (t && k.salt == k.salt) ≡ true) (sym p) q)

module _ (count : State → ℕ) (b : State) where
  -- the state is not the newest one and never will be
  abbrev pub Dead : World → State → Type 0
  Dead w l = (l ≡ w.held → ⊥) × (l.before < w.held.moment)

  -- the first objects of the state exist
  abbrev pub Out : World → State → ℕ → Type 0
  Out w l n = (i : ℕ) → i < n → Has (at l i) w.objects

  abbrev pub Rolled : World → State → Type 0
  Rolled w k = Has k w.past × Has k w.heads

  abbrev pub May : State → State → Type 0
  May k l = (l.before ≡ k.moment) × (k.moment < l.moment)

  abbrev pub Stands : World → State → Type 0
  Stands w l = Has l w.bundles ⊎ Dead w l

  -- the knowledge of a node that was given this command
  abbrev pub Knows : World → Node → Type 0
  Knows w Reading = ⊤
  Knows w (Looking k) = Has k w.past
  Knows w (Stepping k) = Rolled w k
  Knows w (Staging k l n) = Rolled w k × May k l × (n ≡ count l) × Has (step k l) w.made
  Knows w (Swapping k l n) = Rolled w k × May k l × (n ≡ count l) × Stands w l × Has (step k l) w.made
  Knows w (Deleting k l) = Rolled w k × Dead w l
  Knows w (Putting l n) = Has l w.past × (n ≡ count l)
  Knows w (Placing l) = Has l w.past × Out w l (count l)
  Knows w (Heading l) = Has l w.past × Out w l (count l) × Has l w.places
  Knows w (Answering l) = Has l w.heads

  -- the effect of a command that took effect
  abbrev pub Did : World → Node → Type 0
  Did w (Staging k l n) = Stands w l
  Did w (Swapping k l n) = Has l w.past
  Did w (Putting l n) = Out w l n
  Did w (Placing l) = Has l w.places
  Did w (Heading l) = Has l w.heads
  Did w s = ⊤

  -- no fact that commands rely on is lost from one world to another
  record Grows (w v : World) : Type 0 where
    past : (l : State) → Has l w.past → Has l v.past
    heads : (l : State) → Has l w.heads → Has l v.heads
    places : (l : State) → Has l w.places → Has l v.places
    objects : (o : Object) → Has o w.objects → Has o v.objects
    made : (s : Made) → Has s w.made → Has s v.made
    dead : (l : State) → Dead w l → Dead v l
    stands : (l : State) → Stands w l → Stands v l

  knows_on : (w v : World) (s : Node) → Grows w v → Knows w s → Knows v s
  knows_on w v Reading g k = tt
  knows_on w v (Looking l) g k = g.past l k
  knows_on w v (Stepping l) g k = (g.past l k.0, g.heads l k.1)
  knows_on w v (Staging m l n) g k = ((g.past m k.0.0, g.heads m k.0.1), k.1, k.2, g.made (step m l) k.3)
  knows_on w v (Swapping m l n) g k = ((g.past m k.0.0, g.heads m k.0.1), k.1, k.2, g.stands l k.3, g.made (step m l) k.4)
  knows_on w v (Deleting m l) g k = ((g.past m k.0.0, g.heads m k.0.1), g.dead l k.1)
  knows_on w v (Putting l n) g k = (g.past l k.0, k.1)
  knows_on w v (Placing l) g k = (g.past l k.0, λ j b. g.objects (at l j) (k.1 j b))
  knows_on w v (Heading l) g k = (g.past l k.0, (λ j b. g.objects (at l j) (k.1 j b)), g.places l k.2)
  knows_on w v (Answering l) g k = g.heads l k

  did_on : (w v : World) (s : Node) → Grows w v → Did w s → Did v s
  did_on w v Reading g k = tt
  did_on w v (Looking l) g k = tt
  did_on w v (Stepping l) g k = tt
  did_on w v (Staging m l n) g k = g.stands l k
  did_on w v (Swapping m l n) g k = g.past l k
  did_on w v (Deleting m l) g k = tt
  did_on w v (Putting l n) g k = λ j b. g.objects (at l j) (k j b)
  did_on w v (Placing l) g k = g.places l k
  did_on w v (Heading l) g k = g.heads l k
  did_on w v (Answering l) g k = tt

  -- the invariant
  pub record Kept (w : World) : Type 0 where
    pub sound : IsSoundWorld count w
    pub newest : Has w.held w.past
    pub top : IsNewest w.held w.past
    pub reads : Has Reading w.sent
    pub chain : IsChain b w.made w.past
    pub sent : (s : Node) → Has s w.sent → Knows w s
    pub came : (s : Node) → Has s w.came → Did w s

  -- the world is sound whatever else was given, took effect and was made
  sound_beside : (w : World) (made : List Made) (sent came : List Node) → IsSoundWorld count w
      → IsSoundWorld count (record w { made = made; sent = sent; came = came })
  sound_beside w made sent came s =
      record {
        rolled = s.rolled;
        order = s.order;
        later = s.later;
        heads = s.heads;
        tiles = s.tiles;
        placed = s.placed;
        objects = s.objects;
        answered = s.answered;
        bundle = s.bundle;
      }

  -- ---- a node continues
  tell_reading : (w : World) (o : Outcome) → Kept w → MayBeTold count w Reading o → Knows w (on_reading o)
  tell_reading w (Read k) a m = m
  tell_reading w o a m = tt

  tell_looking : (w : World) (k : State) (o : Outcome) → Knows w (Looking k) → MayBeTold count w (Looking k) o → Knows w (on_looking k o)
  tell_looking w k Published a m = (a, m)
  tell_looking w k (Bundle n) a m = (a, m.0)
  tell_looking w k Lost a m = tt
  tell_looking w k o a m = a

  follows_may : (k l : State) → follows k l ≡ true → May k l
  follows_may k l q =
      let p = and_true (l.before == k.moment) (nat_lt k.moment l.moment) q in
      (eqb-true l.before k.moment p.0, ltb-true k.moment l.moment p.1)

  behind_dead : (w : World) (k l : State) → Kept w → Has k w.past → is_behind k l ≡ true → Dead w l
  behind_dead w k l a past q =
      let p = and_true (nat_lt l.before k.moment) (not (l.moment == k.moment && l.salt == k.salt)) q in
      let b : l.before < k.moment = ltb-true l.before k.moment p.0 in
      let later : w.held.before < w.held.moment = a.sound.later in
      ⊎_elim
      (λ (e : k ≡ w.held).
      let m : k.moment ≡ w.held.moment = ap (λ (z : State). z.moment) e in
      ((λ (d : l ≡ w.held). not_both (l.moment == k.moment && l.salt == k.salt) (same_state l k (d ∙ sym e)) p.1), omega (arith, m, b)))
      (λ (c : k.moment ≤ w.held.before).
      ((λ (d : l ≡ w.held). let f : l.before ≡ w.held.before = ap (λ (z : State). z.before) d in absurd (omega (arith, f, b, c))), omega (arith, b, c, later)))
      (a.sound.order k past)

  tell_stepping : (w : World) (k : State) (o : Outcome) → Kept w → Knows w (Stepping k) → MayBeTold count w (Stepping k) o → Knows w (on_stepping k o)
  tell_stepping w k (Stepped l n) a r m =
      elim (follows k l) as (λ t. follows k l ≡ t → Knows w (if t then Staging k l n else Stepping k)) [
        | true ↦ λ q. (r, follows_may k l q, m.0, m.1)
        | false ↦ λ q. r
      ] refl
  tell_stepping w k (Listed l) a r m =
      elim (is_behind k l) as (λ t. is_behind k l ≡ t → Knows w (if t then Deleting k l else Stepping k)) [
        | true ↦ λ q. (r, behind_dead w k l a r.0 q)
        | false ↦ λ q. r
      ] refl
  tell_stepping w k Lost a r m = tt
  tell_stepping w k o a r m = r

  tell_staging : (w : World) (k l : State) (n : ℕ) (o : Outcome) → Kept w → Knows w (Staging k l n) → MayBeTold count w (Staging k l n) o
      → Knows w (on_staging k l n o)
  tell_staging w k l n Done a r m = (r.0, r.1, r.2, a.came (Staging k l n) m, r.3)
  tell_staging w k l n Lost a r m = tt
  tell_staging w k l n o a r m = r

  tell_swapping : (w : World) (k l : State) (n : ℕ) (o : Outcome) → Kept w → Knows w (Swapping k l n) → MayBeTold count w (Swapping k l n) o
      → Knows w (on_swapping k l n o)
  tell_swapping w k l n Done a r m = (a.came (Swapping k l n) m, r.2)
  tell_swapping w k l n Lost a r m = tt
  tell_swapping w k l n o a r m = r

  tell_deleting : (w : World) (k l : State) (o : Outcome) → Knows w (Deleting k l) → Knows w (on_deleting k l o)
  tell_deleting w k l Done r = r.0
  tell_deleting w k l Lost r = r.0
  tell_deleting w k l o r = r

  tell_putting : (w : World) (l : State) (n : ℕ) (o : Outcome) → Kept w → Knows w (Putting l n) → MayBeTold count w (Putting l n) o
      → Knows w (on_putting l n o)
  tell_putting w l n Done a r m = (r.0, subst (Out w l) r.1 (a.came (Putting l n) m))
  tell_putting w l n Lost a r m = tt
  tell_putting w l n o a r m = r

  tell_placing : (w : World) (l : State) (o : Outcome) → Kept w → Knows w (Placing l) → MayBeTold count w (Placing l) o → Knows w (on_placing l o)
  tell_placing w l Done a r m = (r.0, r.1, a.came (Placing l) m)
  tell_placing w l Lost a r m = tt
  tell_placing w l o a r m = r

  tell_heading : (w : World) (l : State) (o : Outcome) → Kept w → Knows w (Heading l) → MayBeTold count w (Heading l) o → Knows w (on_heading l o)
  tell_heading w l Done a r m = a.came (Heading l) m
  tell_heading w l Lost a r m = tt
  tell_heading w l o a r m = r

  tell_answering : (w : World) (l : State) (o : Outcome) → Knows w (Answering l) → Knows w (on_answering l o)
  tell_answering w l Done r = tt
  tell_answering w l Lost r = tt
  tell_answering w l o r = r

  tell : (w : World) (s : Node) (o : Outcome) → Kept w → Knows w s → MayBeTold count w s o → Knows w (after s o)
  tell w Reading o a r m = tell_reading w o a m
  tell w (Looking k) o a r m = tell_looking w k o r m
  tell w (Stepping k) o a r m = tell_stepping w k o a r m
  tell w (Staging k l n) o a r m = tell_staging w k l n o a r m
  tell w (Swapping k l n) o a r m = tell_swapping w k l n o a r m
  tell w (Deleting k l) o a r m = tell_deleting w k l o r
  tell w (Putting l n) o a r m = tell_putting w l n o a r m
  tell w (Placing l) o a r m = tell_placing w l o a r m
  tell w (Heading l) o a r m = tell_heading w l o a r m
  tell w (Answering l) o a r m = tell_answering w l o r

  told : (w : World) (s : Node) (o : Outcome) → Kept w → MayHappen count w (Told s o) → Kept (happens w (Told s o))
  told w s o a m =
      let v : World = record w { sent = after s o ∷ w.sent } in
      let g : Grows w v = record { past = λ l h. h; heads = λ l h. h; places = λ l h. h; objects = λ l h. h; made = λ l h. h; dead = λ l h. h; stands = λ l h. h } in
      let r : Knows w (after s o) = tell w s o a (a.sent s m.0) m.1 in
      record {
        sound = sound_beside w w.made (after s o ∷ w.sent) w.came a.sound;
        newest = a.newest;
        top = a.top;
        reads = inr a.reads;
        chain = a.chain;
        sent = λ x h. ⊎_elim (λ (e : x ≡ after s o). knows_on w v x g (subst (Knows w) (sym e) r)) (λ (i : Has x w.sent). knows_on w v x g (a.sent x i)) h;
        came = λ x h. did_on w v x g (a.came x h);
      }

  -- ---- a command takes effect
  abbrev Added : World → World → Node → Type 0
  Added w v s = (x : Node) → Has x v.came → (x ≡ s) ⊎ Has x w.came

  came_on : (w v : World) (s : Node) → Grows w v → Kept w → Did v s → Added w v s → (x : Node) → Has x v.came → Did v x
  came_on w v s g a d added x h =
      ⊎_elim (λ (e : x ≡ s). subst (Did v) (sym e) d) (λ (i : Has x w.came). did_on w v x g (a.came x i)) (added x h)

  comes_staging : (w : World) (k l : State) (n : ℕ) → Kept w → Kept (comes w (Staging k l n))
  comes_staging w k l n a =
      let v : World = comes w (Staging k l n) in
      let g : Grows w v = record {
        past = λ x h. h;
        heads = λ x h. h;
        places = λ x h. h;
        objects = λ x h. h;
        made = λ x h. h;
        dead = λ x h. h;
        stands = λ x h. ⊎_elim (λ (i : Has x w.bundles). inl (inr i)) (λ (d : Dead w x). inr d) h;
      } in
      record {
        sound =
            record {
              rolled = a.sound.rolled;
              order = a.sound.order;
              later = a.sound.later;
              heads = a.sound.heads;
              tiles = a.sound.tiles;
              placed = a.sound.placed;
              objects = a.sound.objects;
              answered = a.sound.answered;
              bundle = inr a.sound.bundle;
            };
        newest = a.newest;
        top = a.top;
        reads = a.reads;
        chain = a.chain;
        sent = λ x h. knows_on w v x g (a.sent x h);
        came = came_on w v (Staging k l n) g a (inl (inl refl)) (λ x h. h);
      }

  comes_swapping : (w : World) (k l : State) (n : ℕ) → Kept w → Knows w (Swapping k l n) → w.held ≡ k → Kept (comes w (Swapping k l n))
  comes_swapping w k l n a r e =
      let v : World = comes w (Swapping k l n) in
      let m : w.held.moment ≡ k.moment = ap (λ (z : State). z.moment) e in
      let later : w.held.before < w.held.moment = a.sound.later in
      let dead : (x : State) → Dead w x → Dead v x =
      λ x d. (
        (λ (f : x ≡ l). let j : x.before ≡ l.before = ap (λ (z : State). z.before) f in absurd (omega (arith, j, m, r.1.0, d.1))),
        omega (arith, m, r.1.1, d.1),
      ) in
      let g : Grows w v = record {
        past = λ x h. inr h;
        heads = λ x h. h;
        places = λ x h. h;
        objects = λ x h. h;
        made = λ x h. h;
        dead = dead;
        stands = λ x h. ⊎_elim (λ (i : Has x w.bundles). inl i) (λ (d : Dead w x). inr (dead x d)) h;
      } in
      record {
        sound =
            record {
              rolled =
                  λ x h.
                  ⊎_elim
                  (λ (f : x ≡ l). inl f)
                  (λ (i : Has x w.past).
                  ⊎_elim (λ (f : x ≡ w.held). inr (subst (λ z. Has z w.heads) (sym (f ∙ e)) r.0.1)) (λ (j : Has x w.heads). inr j) (a.sound.rolled x i))
                  h;
              order =
                  λ x h.
                  ⊎_elim
                  (λ (f : x ≡ l). inl f)
                  (λ (i : Has x w.past).
                  ⊎_elim
                  (λ (f : x ≡ w.held). let j : x.moment ≡ w.held.moment = ap (λ (z : State). z.moment) f in inr (omega (arith, j, m, r.1.0)))
                  (λ (j : x.moment ≤ w.held.before). inr (omega (arith, j, later, m, r.1.0)))
                  (a.sound.order x i))
                  h;
              later = omega (arith, r.1.0, r.1.1);
              heads = λ x h. inr (a.sound.heads x h);
              tiles = a.sound.tiles;
              placed = a.sound.placed;
              objects = λ o h. (inr (a.sound.objects o h).0, (a.sound.objects o h).1);
              answered = a.sound.answered;
              bundle =
                  ⊎_elim (λ (i : Has l w.bundles). i) (λ (d : Dead w l). absurd (omega (arith, m, r.1.0, d.1))) r.3;
            };
        newest = inl refl;
        top = same_newest l w.past;
        reads = a.reads;
        chain = chain_longer b w.made w.past w.held l a.top (subst (λ z. Has (step z l) w.made) (sym e) r.4) a.chain;
        sent = λ x h. knows_on w v x g (a.sent x h);
        came = came_on w v (Swapping k l n) g a (inl refl) (λ x h. h);
      }

  comes_putting : (w : World) (l : State) (n : ℕ) → Kept w → Out w l n → Kept (comes w (Putting l n))
  comes_putting w l n a m =
      let v : World = comes w (Putting l n) in
      let g : Grows w v = record {
        past = λ x h. h;
        heads = λ x h. h;
        places = λ x h. h;
        objects = λ x h. h;
        made = λ x h. h;
        dead = λ x h. h;
        stands = λ x h. h;
      } in
      record {
        sound = sound_beside w w.made w.sent (Putting l n ∷ w.came) a.sound;
        newest = a.newest;
        top = a.top;
        reads = a.reads;
        chain = a.chain;
        sent = λ x h. knows_on w v x g (a.sent x h);
        came = came_on w v (Putting l n) g a m (λ x h. h);
      }

  comes_placing : (w : World) (l : State) → Kept w → Kept (comes w (Placing l))
  comes_placing w l a =
      let v : World = comes w (Placing l) in
      let g : Grows w v = record {
        past = λ x h. h;
        heads = λ x h. h;
        places = λ x h. inr h;
        objects = λ x h. h;
        made = λ x h. h;
        dead = λ x h. h;
        stands = λ x h. h;
      } in
      record {
        sound =
            record {
              rolled = a.sound.rolled;
              order = a.sound.order;
              later = a.sound.later;
              heads = a.sound.heads;
              tiles = a.sound.tiles;
              placed = λ x h. inr (a.sound.placed x h);
              objects = a.sound.objects;
              answered = a.sound.answered;
              bundle = a.sound.bundle;
            };
        newest = a.newest;
        top = a.top;
        reads = a.reads;
        chain = a.chain;
        sent = λ x h. knows_on w v x g (a.sent x h);
        came = came_on w v (Placing l) g a (inl refl) (λ x h. h);
      }

  comes_heading : (w : World) (l : State) → Kept w → Knows w (Heading l) → Kept (comes w (Heading l))
  comes_heading w l a r =
      let v : World = comes w (Heading l) in
      let g : Grows w v = record {
        past = λ x h. h;
        heads = λ x h. inr h;
        places = λ x h. h;
        objects = λ x h. h;
        made = λ x h. h;
        dead = λ x h. h;
        stands = λ x h. h;
      } in
      record {
        sound =
            record {
              rolled = λ x h. ⊎_elim (λ (f : x ≡ w.held). inl f) (λ (j : Has x w.heads). inr (inr j)) (a.sound.rolled x h);
              order = a.sound.order;
              later = a.sound.later;
              heads = λ x h. ⊎_elim (λ (e : x ≡ l). subst (λ z. Has z w.past) (sym e) r.0) (λ (j : Has x w.heads). a.sound.heads x j) h;
              tiles = λ x h. ⊎_elim (λ (e : x ≡ l). subst (λ z. Out w z (count z)) (sym e) r.1) (λ (j : Has x w.heads). a.sound.tiles x j) h;
              placed = λ x h. ⊎_elim (λ (e : x ≡ l). subst (λ z. Has z w.places) (sym e) r.2) (λ (j : Has x w.heads). a.sound.placed x j) h;
              objects = a.sound.objects;
              answered = λ x h. inr (a.sound.answered x h);
              bundle = a.sound.bundle;
            };
        newest = a.newest;
        top = a.top;
        reads = a.reads;
        chain = a.chain;
        sent = λ x h. knows_on w v x g (a.sent x h);
        came = came_on w v (Heading l) g a (inl refl) (λ x h. h);
      }

  comes_answering : (w : World) (l : State) → Kept w → Knows w (Answering l) → Kept (comes w (Answering l))
  comes_answering w l a r =
      let v : World = comes w (Answering l) in
      let g : Grows w v = record {
        past = λ x h. h;
        heads = λ x h. h;
        places = λ x h. h;
        objects = λ x h. h;
        made = λ x h. h;
        dead = λ x h. h;
        stands = λ x h. h;
      } in
      record {
        sound =
            record {
              rolled = a.sound.rolled;
              order = a.sound.order;
              later = a.sound.later;
              heads = a.sound.heads;
              tiles = a.sound.tiles;
              placed = a.sound.placed;
              objects = a.sound.objects;
              answered = λ x h. ⊎_elim (λ (e : x ≡ l). subst (λ z. Has z w.heads) (sym e) r) (λ (j : Has x w.answered). a.sound.answered x j) h;
              bundle = a.sound.bundle;
            };
        newest = a.newest;
        top = a.top;
        reads = a.reads;
        chain = a.chain;
        sent = λ x h. knows_on w v x g (a.sent x h);
        came = came_on w v (Answering l) g a tt (λ x h. h);
      }

  come : (w : World) (s : Node) → Kept w → Knows w s → MayCome w s → Kept (comes w s)
  come w (Staging k l n) a r m = comes_staging w k l n a
  come w (Swapping k l n) a r m = comes_swapping w k l n a r m
  come w (Putting l n) a r m = comes_putting w l n a m
  come w (Placing l) a r m = comes_placing w l a
  come w (Heading l) a r m = comes_heading w l a r
  come w (Answering l) a r m = comes_answering w l a r
  come w Reading a r m = a
  come w (Looking k) a r m = a
  come w (Stepping k) a r m = a
  come w (Deleting k l) a r m = a

  -- ---- a staged batch is deleted
  goes : (w : World) (k l : State) (left : List State) → Kept w → MayHappen count w (Goes k l left) → Kept (happens w (Goes k l left))
  goes w k l left a m =
      let v : World = happens w (Goes k l left) in
      let dead : Dead w l = (a.sent (Deleting k l) m.0).1 in
      let g : Grows w v = record {
        past = λ x h. h;
        heads = λ x h. h;
        places = λ x h. h;
        objects = λ x h. h;
        made = λ x h. h;
        dead = λ x h. h;
        stands =
            λ x h.
            ⊎_elim
            (λ (i : Has x w.bundles). ⊎_elim (λ (j : Has x left). inl j) (λ (e : x ≡ l). inr (subst (Dead w) (sym e) dead)) (m.1 x i))
            (λ (d : Dead w x). inr d)
            h;
      } in
      record {
        sound =
            record {
              rolled = a.sound.rolled;
              order = a.sound.order;
              later = a.sound.later;
              heads = a.sound.heads;
              tiles = a.sound.tiles;
              placed = a.sound.placed;
              objects = a.sound.objects;
              answered = a.sound.answered;
              bundle = ⊎_elim (λ (j : Has w.held left). j) (λ (e : w.held ≡ l). absurd (dead.0 (sym e))) (m.1 w.held a.sound.bundle);
            };
        newest = a.newest;
        top = a.top;
        reads = a.reads;
        chain = a.chain;
        sent = λ x h. knows_on w v x g (a.sent x h);
        came = came_on w v (Deleting k l) g a tt (λ x h. h);
      }

  -- ---- an object is put
  puts : (w : World) (l : State) (n i : ℕ) → Kept w → MayHappen count w (Puts l n i) → Kept (happens w (Puts l n i))
  puts w l n i a m =
      let v : World = happens w (Puts l n i) in
      let r : Knows w (Putting l n) = a.sent (Putting l n) m.0 in
      let g : Grows w v = record {
        past = λ x h. h;
        heads = λ x h. h;
        places = λ x h. h;
        objects = λ x h. inr h;
        made = λ x h. h;
        dead = λ x h. h;
        stands = λ x h. h;
      } in
      record {
        sound =
            record {
              rolled = a.sound.rolled;
              order = a.sound.order;
              later = a.sound.later;
              heads = a.sound.heads;
              tiles = λ x h j b. inr (a.sound.tiles x h j b);
              placed = a.sound.placed;
              objects =
                  λ o h.
                  ⊎_elim
                  (λ (e : o ≡ at l i). subst (λ (z : Object). Has z.state w.past × (z.index < count z.state)) (sym e) (r.0, omega (arith, m.1, r.1)))
                  (λ (j : Has o w.objects). a.sound.objects o j)
                  h;
              answered = a.sound.answered;
              bundle = a.sound.bundle;
            };
        newest = a.newest;
        top = a.top;
        reads = a.reads;
        chain = a.chain;
        sent = λ x h. knows_on w v x g (a.sent x h);
        came = λ x h. did_on w v x g (a.came x h);
      }

  -- ---- a step is made
  makes : (w : World) (k l : State) → Kept w → Kept (happens w (Makes k l))
  makes w k l a =
      let v : World = happens w (Makes k l) in
      let more : (s : Made) → Has s w.made → Has s v.made = λ s h. inr h in
      let g : Grows w v = record {
        past = λ x h. h;
        heads = λ x h. h;
        places = λ x h. h;
        objects = λ x h. h;
        made = more;
        dead = λ x h. h;
        stands = λ x h. h;
      } in
      record {
        sound = sound_beside w (step k l ∷ w.made) w.sent w.came a.sound;
        newest = a.newest;
        top = a.top;
        reads = a.reads;
        chain = chain_on b w.made v.made w.past more a.chain;
        sent = λ x h. knows_on w v x g (a.sent x h);
        came = λ x h. did_on w v x g (a.came x h);
      }

  pub keep : (w : World) (h : Happening) → Kept w → MayHappen count w h → Kept (happens w h)
  keep w (Comes s) a m = come w s a (a.sent s m.0) m.1
  keep w (Makes k l) a m = makes w k l a
  keep w (Puts l n i) a m = puts w l n i a m
  keep w (Goes k l left) a m = goes w k l left a m
  keep w (Told s o) a m = told w s o a m

  pub begin : IsFirstState count b → Kept (beginning b)
  begin i =
      record {
        sound =
            record {
              rolled = λ x h. ⊎_elim (λ (e : x ≡ b). inl e) (λ z. absurd z) h;
              order = λ x h. ⊎_elim (λ (e : x ≡ b). inl e) (λ z. absurd z) h;
              later = i.1;
              heads = λ x h. h;
              tiles = λ x h j c. ⊎_elim (λ (e : x ≡ b). let f : count x ≡ count b = ap count e in absurd (omega (arith, f, i.0, c))) (λ z. absurd z) h;
              placed = λ x h. h;
              objects = λ o h. absurd h;
              answered = λ x h. absurd h;
              bundle = inl refl;
            };
        newest = inl refl;
        top = same_newest b [];
        reads = inl refl;
        chain = chain_one b;
        sent = λ x h. ⊎_elim (λ (e : x ≡ Reading). subst (Knows (beginning b)) (sym e) tt) (λ z. absurd z) h;
        came = λ x h. absurd h;
      }

  led : (w : World) (hs : List Happening) (v : World) → Kept w → LeadTo count w hs v → Kept v
  unfolding LeadTo
  led w [] v a e = subst Kept e a
  led w (h ∷ hs) v a m = led (happens w h) hs v (keep w h a m.0) m.1

-- ---- events that can be made to happen
module _ (count : State → ℕ) where
  abbrev Leads : World → State → Type 0
  Leads w l = (more : List Happening) × (v : World) × LeadTo count w more v × (v.held ≡ w.held) × Has l v.heads

  at_once : (w : World) (l : State) → Has l w.heads → Leads w l
  unfolding LeadTo
  at_once w l h = ([], w, refl, refl, h)

  first : (w : World) (h : Happening) (l : State) → MayHappen count w h → (happens w h).held ≡ w.held → Leads (happens w h) l → Leads w l
  unfolding LeadTo
  first w h l m e r = (h ∷ r.0, r.1, (m, r.2), r.3 ∙ e, r.4)

  finish : (w : World) (l : State) → Has (Placing l) w.sent → Leads w l
  finish w l h =
      let w1 : World = happens w (Comes (Placing l)) in
      let w2 : World = happens w1 (Told (Placing l) Done) in
      let w3 : World = happens w2 (Comes (Heading l)) in
      first w (Comes (Placing l)) l (h, tt) refl
      (first w1 (Told (Placing l) Done) l (h, inl refl) refl (first w2 (Comes (Heading l)) l (inl refl, tt) refl (at_once w3 l (inl refl))))

  -- the first objects of the state exist
  abbrev Standing : World → State → ℕ → Type 0
  Standing w l n = (i : ℕ) → i < n → Has (at l i) w.objects

  put_one : (w : World) (l : State) (n j : ℕ) → Standing w l j → Standing (happens w (Puts l n j)) l (j + 1)
  put_one w l n j out i c =
      ⊎_elim
      (λ (b : i < j). inr (out i b))
      (λ (e : i ≡ j). inl (ap (λ z. at l z) e))
      (lt_or_same i j c)

  put_all : (j i n : ℕ) (w : World) (l : State) → i + j ≡ n → Has (Putting l n) w.sent → Standing w l i → Leads w l
  put_all zero i n w l e h out =
      let w1 : World = happens w (Comes (Putting l n)) in
      let w2 : World = happens w1 (Told (Putting l n) Done) in
      first w (Comes (Putting l n)) l (h, λ x c. out x (omega (arith, e, c))) refl
      (first w1 (Told (Putting l n) Done) l (h, inl refl) refl (finish w2 l (inl refl)))
  put_all (suc j) i n w l e h out =
      let w1 : World = happens w (Puts l n i) in
      first w (Puts l n i) l (h, omega (arith, e)) refl (put_all j (i + 1) n w1 l (omega (arith, e)) h (put_one w l n i out))

pub is_kept : (count : State → ℕ) (b : State) (hs : List Happening) (w : World) → IsFirstState count b → LeadTo count (beginning b) hs w → Kept count b w
is_kept count b hs w i m = led count b (beginning b) hs w (begin count b i) m

pub can_be_published : CanBePublished
can_be_published count b hs w i m =
    let a = is_kept count b hs w i m in
    let k = w.held in
    let w1 : World = happens w (Told Reading (Read k)) in
    let w2 : World = happens w1 (Told (Looking k) (Bundle (count k))) in
    first count w (Told Reading (Read k)) k (a.reads, a.newest) refl
    (first count w1 (Told (Looking k) (Bundle (count k))) k (inl refl, (refl, inl a.sound.bundle)) refl
    (put_all count (count k) 0 (count k) w2 k (omega arith) (inl refl) (λ i c. absurd (omega (arith, c)))))

pub worlds_are_sound : WorldsAreSound
worlds_are_sound count b hs w i m = (is_kept count b hs w i m).sound

-- each state that came no later than one with a published head has a head, too
pub before_head : (count : State → ℕ) (w : World) (l n : State) → IsSoundWorld count w → Has l w.heads → Has n w.past → n.moment ≤ l.moment → Has n w.heads
before_head count w l n s head past order =
    ⊎_elim
    (λ (e : n ≡ w.held).
    ⊎_elim
    (λ (f : l ≡ w.held). subst (λ z. Has z w.heads) (f ∙ sym e) head)
    (λ (f : l.moment ≤ w.held.before).
    let g : n.moment ≡ w.held.moment = ap (λ (z : State). z.moment) e in absurd (omega (arith, f, g, order, s.later)))
    (s.order l (s.heads l head)))
    (λ (h : Has n w.heads). h)
    (s.rolled n past)

pub heads_are_whole : HeadsAreWhole
heads_are_whole count b hs w i m l n head past order =
    let s : IsSoundWorld count w = worlds_are_sound count b hs w i m in
    s.tiles n (before_head count w l n s head past order)

pub steps_find_all : StepsFindAll
steps_find_all count b hs w i m k l sent past order =
    let a = is_kept count b hs w i m in
    let h : Has l w.heads = before_head count w k l a.sound (a.sent (Stepping k) sent).1 past order in
    (a.sound.placed l h, a.sound.tiles l h)

pub pasts_are_chains : PastsAreChains
pasts_are_chains count b hs w i m = (is_kept count b hs w i m).chain

newest_first : (h : State) (past : List State) → IsNewest h past → (rest : List State) × (past ≡ h ∷ rest)
unfolding IsNewest
newest_first h [] n = absurd n
newest_first h (l ∷ rest) n = (rest, ap (λ z. z ∷ rest) (sym n))

pub holds_newest : HoldsNewest
holds_newest count b hs w i m = newest_first w.held w.past (is_kept count b hs w i m).top

pub staged_stand : StagedStand
staged_stand count b hs w i m k l n sent e =
    let r = (is_kept count b hs w i m).sent (Swapping k l n) sent in
    let h : w.held.moment ≡ k.moment = ap (λ (z : State). z.moment) e in
    ⊎_elim
    (λ (stands : Has l w.bundles). stands)
    (λ (dead : Dead count b w l). absurd (omega (arith, h, r.1.0, dead.1)))
    r.3

pub asked_are_taken : AskedAreTaken
asked_are_taken count b hs w i m l sent = ((is_kept count b hs w i m).sent (Heading l) sent).0

pub names_have_one_content : NamesHaveOneContent
names_have_one_content count b hs w i m plan agree o p ho hp same =
    let s : IsSoundWorld count w = worlds_are_sound count b hs w i m in
    agree o p (s.objects o ho).0 (s.objects p hp).0 same
