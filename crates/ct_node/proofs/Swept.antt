-- The invariant if partial tiles and heads are deleted.
use Rattle.std.proofs.Common.{refl, subst, ◌⊎◌, inl, inr, ⊎_elim, ◌≡◌, ℕ, ◌<◌, ◌≤◌, sym, ◌∙◌, ap, arith, List, [], ◌∷◌, ◌++◌}
use Rattle.ct_node.specs.declared.state.State.{State}
use Rattle.ct_node.specs.declared.node.Node.{Node}
use Rattle.ct_node.specs.declared.node.Node.TheVariants.{Reading, Looking, Stepping, Staging, Swapping, Deleting, Putting, Placing, Heading, Answering}
use Rattle.ct_node.specs.Worlds.{Has, Object, World, beginning, Happening, Comes, Makes, Puts, Goes, Told, comes, happens, MayHappen, LeadTo}
use Rattle.ct_node.specs.Sweeps.{IsFullFor, SweptWorld, swept_beginning, SweptHappening, Beside, TileGoes, HeadGoes, objects_behind, heads_behind, happens_swept, MayHappenSwept, LeadToSwept, StandsInstead, SweepsKeep}
use Rattle.ct_node.proofs.Sound.{heads_are_whole}

-- ---- the end of a history
one_more : (count : State → ℕ) (u : World) (hs : List Happening) (w : World) (h : Happening) → LeadTo count u hs w → MayHappen count w h
    → LeadTo count u (hs ++ h ∷ []) (happens w h)
unfolding LeadTo
one_more count u [] w h leads may = (subst (λ (v : World). MayHappen count v h) (sym leads) may, ap (λ (v : World). happens v h) leads)
one_more count u (g ∷ hs) w h leads may = (leads.0, one_more count (happens u g) hs w h leads.1 may)

no_more : (count : State → ℕ) (w : World) → LeadTo count w [] w
unfolding LeadTo
no_more count w = refl

-- ---- the objects and heads after something happened
comes_objects : (w : World) (s : Node) → (comes w s).objects ≡ w.objects
comes_objects w Reading = refl
comes_objects w (Looking k) = refl
comes_objects w (Stepping k) = refl
comes_objects w (Staging k l n) = refl
comes_objects w (Swapping k l n) = refl
comes_objects w (Deleting k l) = refl
comes_objects w (Putting l n) = refl
comes_objects w (Placing l) = refl
comes_objects w (Heading l) = refl
comes_objects w (Answering l) = refl

object_or : (w : World) (h : Happening) (os : List Object) (o : Object) → Has o (happens w h).objects → Has o (objects_behind h os) ⊎ Has o w.objects
object_or w (Comes s) os o i = inr (subst (λ xs. Has o xs) (comes_objects w s) i)
object_or w (Makes k l) os o i = inr i
object_or w (Puts l n j) os o i = ⊎_elim (λ (e : o ≡ record { state = l; index = j }). inl (inl e)) (λ (r : Has o w.objects). inr r) i
object_or w (Goes k l left) os o i = inr i
object_or w (Told s c) os o i = inr i

object_stays : (h : Happening) (os : List Object) (o : Object) → Has o os → Has o (objects_behind h os)
object_stays (Comes s) os o i = i
object_stays (Makes k l) os o i = i
object_stays (Puts l n j) os o i = inr i
object_stays (Goes k l left) os o i = i
object_stays (Told s c) os o i = i

object_put : (w : World) (h : Happening) (os : List Object) → ((o : Object) → Has o os → Has o w.objects) → (o : Object) → Has o (objects_behind h os)
    → Has o (happens w h).objects
object_put w (Comes s) os f o i = subst (λ xs. Has o xs) (sym (comes_objects w s)) (f o i)
object_put w (Makes k l) os f o i = f o i
object_put w (Puts l n j) os f o i = ⊎_elim (λ (e : o ≡ record { state = l; index = j }). inl e) (λ (r : Has o os). inr (f o r)) i
object_put w (Goes k l left) os f o i = f o i
object_put w (Told s c) os f o i = f o i

head_or : (w : World) (h : Happening) (ls : List State) (l : State) → Has l (happens w h).heads → Has l (heads_behind h ls) ⊎ Has l w.heads
head_or w (Comes (Heading x)) ls l i = ⊎_elim (λ (e : l ≡ x). inl (inl e)) (λ (r : Has l w.heads). inr r) i
head_or w (Comes Reading) ls l i = inr i
head_or w (Comes (Looking k)) ls l i = inr i
head_or w (Comes (Stepping k)) ls l i = inr i
head_or w (Comes (Staging k m n)) ls l i = inr i
head_or w (Comes (Swapping k m n)) ls l i = inr i
head_or w (Comes (Deleting k m)) ls l i = inr i
head_or w (Comes (Putting m n)) ls l i = inr i
head_or w (Comes (Placing m)) ls l i = inr i
head_or w (Comes (Answering m)) ls l i = inr i
head_or w (Makes k m) ls l i = inr i
head_or w (Puts m n j) ls l i = inr i
head_or w (Goes k m left) ls l i = inr i
head_or w (Told s c) ls l i = inr i

head_stays : (h : Happening) (ls : List State) (l : State) → Has l ls → Has l (heads_behind h ls)
head_stays (Comes (Heading x)) ls l i = inr i
head_stays (Comes Reading) ls l i = i
head_stays (Comes (Looking k)) ls l i = i
head_stays (Comes (Stepping k)) ls l i = i
head_stays (Comes (Staging k m n)) ls l i = i
head_stays (Comes (Swapping k m n)) ls l i = i
head_stays (Comes (Deleting k m)) ls l i = i
head_stays (Comes (Putting m n)) ls l i = i
head_stays (Comes (Placing m)) ls l i = i
head_stays (Comes (Answering m)) ls l i = i
head_stays (Makes k m) ls l i = i
head_stays (Puts m n j) ls l i = i
head_stays (Goes k m left) ls l i = i
head_stays (Told s c) ls l i = i

head_put : (w : World) (h : Happening) (ls : List State) → ((l : State) → Has l ls → Has l w.heads) → (l : State) → Has l (heads_behind h ls)
    → Has l (happens w h).heads
head_put w (Comes (Heading x)) ls f l i = ⊎_elim (λ (e : l ≡ x). inl e) (λ (r : Has l ls). inr (f l r)) i
head_put w (Comes Reading) ls f l i = f l i
head_put w (Comes (Looking k)) ls f l i = f l i
head_put w (Comes (Stepping k)) ls f l i = f l i
head_put w (Comes (Staging k m n)) ls f l i = f l i
head_put w (Comes (Swapping k m n)) ls f l i = f l i
head_put w (Comes (Deleting k m)) ls f l i = f l i
head_put w (Comes (Putting m n)) ls f l i = f l i
head_put w (Comes (Placing m)) ls f l i = f l i
head_put w (Comes (Answering m)) ls f l i = f l i
head_put w (Makes k m) ls f l i = f l i
head_put w (Puts m n j) ls f l i = f l i
head_put w (Goes k m left) ls f l i = f l i
head_put w (Told s c) ls f l i = f l i

module _ (count : State → ℕ) (tile : Object → List ℕ × ℕ) (b : State) where
  abbrev ReachesHead : SweptWorld → State → Type 0
  ReachesHead w l = (m : State) × Has m w.heads × (l.moment ≤ m.moment)

  -- the invariant
  record Left (w : SweptWorld) : Type 0 where
    history : (past : List Happening) × LeadTo count (beginning b) past w.world
    objects : (o : Object) → Has o w.world.objects → StandsInstead tile w (tile o)
    heads : (l : State) → Has l w.world.heads → ReachesHead w l
    put : (o : Object) → Has o w.objects → Has o w.world.objects
    stood : (l : State) → Has l w.heads → Has l w.world.heads

  left_first : Left (swept_beginning b)
  left_first =
      record {
        history = ([], no_more count (beginning b));
        objects = λ o h. absurd h;
        heads = λ l h. (l, h, omega arith);
        put = λ o h. absurd h;
        stood = λ l h. h;
      }

  -- ---- everything except a deletion
  left_beside : (w : SweptWorld) (h : Happening) → Left w → MayHappen count w.world h → Left (happens_swept w (Beside h))
  left_beside w h a m =
      record {
        history = (a.history.0 ++ h ∷ [], one_more count (beginning b) a.history.0 w.world h a.history.1 m);
        objects =
            λ o i.
            ⊎_elim
            (λ (new : Has o (objects_behind h w.objects)). (o, new, inl refl))
            (λ (old : Has o w.world.objects). let s = a.objects o old in (s.0, object_stays h w.objects s.0 s.1, s.2))
            (object_or w.world h w.objects o i);
        heads =
            λ l i.
            ⊎_elim
            (λ (new : Has l (heads_behind h w.heads)). (l, new, omega arith))
            (λ (old : Has l w.world.heads). let s = a.heads l old in (s.0, head_stays h w.heads s.0 s.1, s.2))
            (head_or w.world h w.heads l i);
        put = object_put w.world h w.objects a.put;
        stood = head_put w.world h w.heads a.stood;
      }

  -- ---- a tile is deleted
  -- it is the tile, or the full one
  abbrev Reads : List ℕ × ℕ → List ℕ × ℕ → Type 0
  Reads n m = (m ≡ n) ⊎ IsFullFor n m

  full : (n m k : List ℕ × ℕ) → IsFullFor n m → IsFullFor m k → IsFullFor n k
  full n m k h g = (h.0 ∙ g.0, omega (arith, h.1, g.1), g.2)

  reads_full : (n m k : List ℕ × ℕ) → Reads n m → IsFullFor m k → IsFullFor n k
  reads_full n m k (inl e) h = subst (λ z. IsFullFor z k) e h
  reads_full n m k (inr f) h = full n m k f h

  full_reads : (n m k : List ℕ × ℕ) → IsFullFor n m → Reads m k → IsFullFor n k
  full_reads n m k h (inl e) = subst (λ z. IsFullFor n z) (sym e) h
  full_reads n m k h (inr f) = full n m k h f

  -- an object that is the full tile is left
  stands_on : (w : SweptWorld) (n : List ℕ × ℕ) (p : Object) (left : List Object) → Left w → MayHappenSwept count tile w (TileGoes n p left)
      → (z : Object) × Has z left × IsFullFor n (tile z)
  stands_on w n p left a m =
      let s = a.objects p m.0 in
      let wide : IsFullFor n (tile s.0) = full_reads n (tile p) (tile s.0) m.1 s.2 in
      ⊎_elim
      (λ (stays : Has s.0 left). (s.0, stays, wide))
      (λ (gone : tile s.0 ≡ n). let same : IsFullFor n n = subst (λ z. IsFullFor n z) gone wide in absurd (omega (arith, same.1)))
      (m.2.0 s.0 s.1)

  tile_goes : (w : SweptWorld) (n : List ℕ × ℕ) (p : Object) (left : List Object) → Left w → MayHappenSwept count tile w (TileGoes n p left)
      → Left (happens_swept w (TileGoes n p left))
  tile_goes w n p left a m =
      let other = stands_on w n p left a m in
      record {
        history = a.history;
        objects =
            λ o i.
            let s = a.objects o i in
            ⊎_elim
            (λ (stays : Has s.0 left). (s.0, stays, s.2))
            (λ (gone : tile s.0 ≡ n).
            (other.0, other.1, inr (reads_full (tile o) n (tile other.0) (subst (λ z. Reads (tile o) z) gone s.2) other.2)))
            (m.2.0 s.0 s.1);
        heads = a.heads;
        put = λ o i. a.put o (m.2.1 o i);
        stood = a.stood;
      }

  -- ---- a head is deleted
  later_left : (w : SweptWorld) (l m : State) (left : List State) → Left w → MayHappenSwept count tile w (HeadGoes l m left)
      → (z : State) × Has z left × (l.moment < z.moment)
  later_left w l m left a may =
      let s = a.heads m may.0 in
      ⊎_elim
      (λ (stays : Has s.0 left). (s.0, stays, omega (arith, s.2, may.1)))
      (λ (gone : s.0.moment ≡ l.moment). absurd (omega (arith, gone, s.2, may.1)))
      (may.2.0 s.0 s.1)

  head_goes : (w : SweptWorld) (l m : State) (left : List State) → Left w → MayHappenSwept count tile w (HeadGoes l m left)
      → Left (happens_swept w (HeadGoes l m left))
  head_goes w l m left a may =
      let other = later_left w l m left a may in
      record {
        history = a.history;
        objects = a.objects;
        heads =
            λ x i.
            let s = a.heads x i in
            ⊎_elim
            (λ (stays : Has s.0 left). (s.0, stays, s.2))
            (λ (gone : s.0.moment ≡ l.moment). (other.0, other.1, omega (arith, gone, s.2, other.2)))
            (may.2.0 s.0 s.1);
        put = a.put;
        stood = λ x i. a.stood x (may.2.1 x i);
      }

  left_on : (w : SweptWorld) (h : SweptHappening) → Left w → MayHappenSwept count tile w h → Left (happens_swept w h)
  left_on w (Beside h) a m = left_beside w h a m
  left_on w (TileGoes n p left) a m = tile_goes w n p left a m
  left_on w (HeadGoes l m left) a may = head_goes w l m left a may

  led_swept : (w : SweptWorld) (hs : List SweptHappening) (v : SweptWorld) → Left w → LeadToSwept count tile w hs v → Left v
  unfolding LeadToSwept
  led_swept w [] v a e = subst Left e a
  led_swept w (h ∷ hs) v a m = led_swept (happens_swept w h) hs v (left_on w h a m.0) m.1

pub sweeps_keep : SweepsKeep
sweeps_keep count tile b hs w i m =
    let a = led_swept count tile b (swept_beginning b) hs w (left_first count tile b) m in (
      a.history,
      record {
        objects = a.objects;
        covered =
            λ l x head past order j c.
            a.objects (record { state = x; index = j }) (heads_are_whole count b a.history.0 w.world i a.history.1 l x head past order j c);
        heads = a.heads;
        put = a.put;
        stood = a.stood;
      },
    )
