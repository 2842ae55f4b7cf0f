-- No two states that the lock took add the same identity.
use Rattle.std.proofs.Common.{subst, inl, inr, ⊎_elim, ◌≡◌, ℕ, zero, suc, ◌<◌, ◌≤◌, sym, ap, arith, List, [], ◌∷◌, length, get_or, AllPairs, refl}
use Rattle.std.proofs.lemmas.List.Kept.{AllPairs-cons}
use Rattle.ct_node.specs.declared.state.State.{State}
use Rattle.ct_node.specs.declared.node.Node.{Node}
use Rattle.ct_node.specs.declared.node.Node.TheVariants.{Reading, Looking, Stepping, Staging, Swapping, Deleting, Putting, Placing, Heading, Answering}
use Rattle.ct_node.specs.Worlds.{Has, Made, World, beginning, Happening, Comes, Makes, Puts, Goes, Told, comes, happens, MayCome, MayHappen, LeadTo}
use Rattle.ct_node.specs.LookUps.{ShareNone, IsLookedUp, LooksUp, AllLookUp, StatesAddOthers}
use Rattle.ct_node.proofs.Sound.{Kept, keep, begin, before_head}

get_has : (xs : List State) (k : ℕ) (d : State) → k < length xs → Has (get_or xs k d) xs
get_has [] k d b = absurd (omega (arith, b))
get_has (x ∷ xs) zero d b = inl refl
get_has (x ∷ xs) (suc k) d b = inr (get_has xs k d (omega (arith, b)))

module _ (count : State → ℕ) (b : State) (ids : State → List (List ℕ)) where
  abbrev Adds : State → State → Type 0
  Adds l k = ShareNone (ids k) (ids l)

  -- the step adds no identity of a state that came before it
  abbrev Fresh : World → Made → Type 0
  Fresh w m = Has m.seen w.past × ((x : State) → Has x w.past → x.moment ≤ m.seen.moment → Adds m.new x)

  -- the invariant if each step is looked up
  record Others (w : World) : Type 0 where
    made : (m : Made) → Has m w.made → Fresh w m
    pairs : AllPairs Adds w.past

  not_later : (w : World) (x : State) → Kept count b w → Has x w.past → x.moment ≤ w.held.moment
  not_later w x a h =
      ⊎_elim
      (λ (e : x ≡ w.held). let m : x.moment ≡ w.held.moment = ap (λ (z : State). z.moment) e in omega (arith, m))
      (λ (c : x.moment ≤ w.held.before). omega (arith, c, a.sound.later))
      (a.sound.order x h)

  -- the lock takes the state of a step
  takes : (w : World) (k l : State) (n : ℕ) → Kept count b w → Has (Swapping k l n) w.sent → w.held ≡ k → Others w → Others (comes w (Swapping k l n))
  takes w k l n a s e o =
      let r = a.sent (Swapping k l n) s in
      let h : w.held.moment ≡ k.moment = ap (λ (z : State). z.moment) e in
      record {
        made =
            λ m g.
            let f = o.made m g in
            let seen : m.seen.moment ≤ w.held.moment = not_later w m.seen a f.0 in (
              inr f.0,
              λ x i c.
                  ⊎_elim
                  (λ (q : x ≡ l). let u : x.moment ≡ l.moment = ap (λ (z : State). z.moment) q in absurd (omega (arith, u, c, seen, h, r.1.1)))
                  (λ (j : Has x w.past). f.1 x j c)
                  i,
            );
        pairs =
            AllPairs-cons Adds l w.past
            (λ i d c.
            let j = get_has w.past i d c in
            let before : (get_or w.past i d).moment ≤ w.held.moment = not_later w (get_or w.past i d) a j in
            (o.made (record { seen = k; new = l }) r.4).1 (get_or w.past i d) j (omega (arith, before, h)))
            o.pairs;
      }

  comes_others : (w : World) (s : Node) → Kept count b w → Has s w.sent → MayCome w s → Others w → Others (comes w s)
  comes_others w (Swapping k l n) a h m o = takes w k l n a h m o
  comes_others w (Staging k l n) a h m o = record { made = o.made; pairs = o.pairs }
  comes_others w (Putting l n) a h m o = record { made = o.made; pairs = o.pairs }
  comes_others w (Placing l) a h m o = record { made = o.made; pairs = o.pairs }
  comes_others w (Heading l) a h m o = record { made = o.made; pairs = o.pairs }
  comes_others w (Answering l) a h m o = record { made = o.made; pairs = o.pairs }
  comes_others w Reading a h m o = o
  comes_others w (Looking k) a h m o = o
  comes_others w (Stepping k) a h m o = o
  comes_others w (Deleting k l) a h m o = o

  -- a step is made after a look-up, which finds all index entries of what came before
  makes_others : (w : World) (k l : State) → Kept count b w → IsLookedUp ids w k l → Others w → Others (happens w (Makes k l))
  makes_others w k l a u o =
      let r = a.sent (Stepping k) u.stepping in
      let new : Fresh w (record { seen = k; new = l }) = (
        r.0,
        λ x h c i known new. u.missed i (u.found x (a.sound.placed x (before_head count w k x a.sound r.1 h c)) i known) new,
      ) in
      record {
        made = λ m h. ⊎_elim (λ (e : m ≡ record { seen = k; new = l }). subst (Fresh w) (sym e) new) (λ (j : Has m w.made). o.made m j) h;
        pairs = o.pairs;
      }

  keep_others : (w : World) (h : Happening) → Kept count b w → MayHappen count w h → LooksUp ids w h → Others w → Others (happens w h)
  keep_others w (Comes s) a m u o = comes_others w s a m.0 m.1 o
  keep_others w (Makes k l) a m u o = makes_others w k l a u o
  keep_others w (Puts l n i) a m u o = record { made = o.made; pairs = o.pairs }
  keep_others w (Goes k l left) a m u o = record { made = o.made; pairs = o.pairs }
  keep_others w (Told s c) a m u o = record { made = o.made; pairs = o.pairs }

  led_others : (w : World) (hs : List Happening) (v : World) → Kept count b w → Others w → LeadTo count w hs v → AllLookUp ids w hs → Others v
  unfolding LeadTo AllLookUp
  led_others w [] v a o e u = subst Others e o
  led_others w (h ∷ hs) v a o m u = led_others (happens w h) hs v (keep count b w h a m.0) (keep_others w h a m.0 u.0 o) m.1 u.1

  first_others : Others (beginning b)
  first_others = record { made = λ m h. absurd h; pairs = λ i j d l h. absurd (omega (arith, l, h)) }

pub states_add_others : StatesAddOthers
states_add_others count b hs w i m ids u = (led_others count b ids (beginning b) hs w (begin count b i) (first_others count b ids) m u).pairs
