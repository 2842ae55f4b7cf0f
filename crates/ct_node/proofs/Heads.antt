-- The heads that guards let through belong to the nodes' one log.
use Rattle.std.proofs.Common.{subst, ◌⊎◌, inl, inr, ⊎_elim, ◌≡◌, refl, ℕ, ◌<◌, ◌≤◌, sym, ◌∙◌, ap, arith, List, [], ◌∷◌, ◌++◌, length, take, map}
use Rattle.std.specs.Prelude.{All}
use Rattle.std.specs.declared.option.Option.{Option}
use Rattle.std.proofs.lemmas.List.{length-take, length-take-le, length-map, take-take, take-map}
use Rattle.std.proofs.lemmas.List.Elements.{All-weaker}
use Rattle.ct_tree.specs.Tree.{mth_of_leaves}
use Rattle.ct_tree.specs.declared.head.Head.{Head}
use Rattle.ct_data_tiles.specs.TileLeaf.{Tiled, leaf_of}
use Rattle.ct_guard.specs.NewestHead.{HeadStep, NewestIsOf, IsHeadOfFirst, IsHashedForHeads, HeadsGoBack}
use Rattle.ct_step.specs.declared.line.StateLine.{StateLine}
use Rattle.ct_monitor.specs.Heads.{IsHeadOfAll}
use Rattle.ct_verify.proofs.Agreeing.{collide_more}
use Rattle.ct_verify.specs.Hashed.{CollideAmong, IsHashedIn, IsHashedInLog}
use Rattle.ct_node.specs.declared.state.State.{State}
use Rattle.ct_node.specs.declared.node.Node.TheVariants.{Heading}
use Rattle.ct_node.specs.Worlds.{Has, Made, Object, World, AskedAreTaken}
use Rattle.ct_step.specs.Entries.{tree_leaves}
use Rattle.ct_step.specs.Lines.{LineAttempt, IsHashedBySteps, IsStepOf}
use Rattle.ct_step.specs.Steps.{IsLog, line_head}
use Rattle.ct_node.specs.Logs.{IsOf, StandsOf, NodesWriteOneLog}
use Rattle.ct_node.specs.Heads.{NewestIsAsked, HeadsLetThroughAreOf, GuardedHeadsAreOfOneLog}

-- ---- the line of such a state is that of a beginning of the entries

module _ (H : List ℕ → List ℕ) (line : State → StateLine) (step : Made → LineAttempt) (made : List Made) (b : State) (known E : List Tiled) where
  abbrev IsLineOf : StateLine → Type 0
  IsLineOf x = (x.tree_size ≤ length E) × IsLog H (take x.tree_size E) x

  first_line : known ≡ take (length known) E → IsLog H known (line b) → IsLineOf (line b)
  first_line starts is =
      let long : length known ≡ length (take (length known) E) = ap length starts in
      let same : known ≡ take (line b).tree_size E = starts ∙ ap (λ (n : ℕ). take n E) (sym is.size) in
      (omega (arith, is.size, long, length-take (length known) E), subst (λ (K : List Tiled). IsLog H K (line b)) same is)

  line_of : known ≡ take (length known) E → IsLog H known (line b) → (l : State) → IsOf H line step made b E l → IsLineOf (line l)
  line_of starts is l (inl first) = subst IsLineOf (ap line (sym first)) (first_line starts is)
  line_of starts is l (inr of) = subst IsLineOf of.3 (of.4.size, of.4.log)

  leaves_long : length (tree_leaves E) ≡ length E
  leaves_long = length-map E leaf_of

  head_of : (x : StateLine) → IsLineOf x → IsHeadOfAll H (take x.tree_size (tree_leaves E)) (line_head x)
  head_of x is =
      let fits : x.tree_size ≤ length (tree_leaves E) = omega (arith, is.0, leaves_long) in (
        sym (length-take-le x.tree_size (tree_leaves E) fits),
        is.1.root ∙ ap (mth_of_leaves H) (sym (take-map leaf_of x.tree_size E)),
      )

  -- ---- the newest head that is asked for belongs to the entries, and each head before it does, too

  -- the newest head is that of the first n leaves
  abbrev NewestIsOfFirst : List HeadStep → Type 0
  NewestIsOfFirst steps = (n : ℕ) × (n ≤ length (tree_leaves E)) × NewestIsOf H (take n (tree_leaves E)) steps

  newest : (w : World) → ((l : State) → Has (Heading l) w.sent → IsLineOf (line l)) → (steps : List HeadStep) → NewestIsAsked line w steps
      → NewestIsOfFirst steps
  unfolding NewestIsAsked NewestIsOf
  newest w lines [] asked = (0, omega arith, tt)
  newest w lines (s ∷ []) asked =
      let is : IsLineOf (line asked.0) = lines asked.0 asked.1 in
      let n : ℕ = (line asked.0).tree_size in
      (n, omega (arith, is.0, leaves_long), subst (IsHeadOfAll H (take n (tree_leaves E))) (sym asked.2) (head_of (line asked.0) is))
  newest w lines (s ∷ t ∷ steps) asked = newest w lines (t ∷ steps) asked

  wider : (n : ℕ) → n ≤ length (tree_leaves E) → (head : Head) → IsHeadOfFirst H (take n (tree_leaves E)) head → IsHeadOfFirst H (tree_leaves E) head
  wider n fits head first = λ some.
      let g = first some in
      let below : head.tree_size ≤ n = omega (arith, g.0, length-take-le n (tree_leaves E) fits) in
      (omega (arith, below, fits), g.1 ∙ ap (mth_of_leaves H) (take-take head.tree_size n (tree_leaves E) below))

  -- each string that is hashed for a beginning of a list is hashed for the list
  more_hashed : (last : Option Head) (steps : List HeadStep) (n : ℕ) (D : List (List ℕ)) → n ≤ length D → (x : List ℕ) → IsHashedForHeads H last steps (take n D) x
      → IsHashedForHeads H last steps D x
  more_hashed last steps n D l x (inl c) = inl c
  more_hashed last steps n D l x (inr w) =
      let e : length (take n D) ≡ n = length-take-le n D l in
      let i : w.0 ≤ n = omega (arith, w.1, e) in
      inr (w.0, omega arith, subst (λ (L : List (List ℕ)). IsHashedIn H L x) (take-take w.0 n D i) w.2)

  heads_of : HeadsGoBack → ((x : List ℕ) → length (H x) ≡ 32) → (w : World) → ((l : State) → Has (Heading l) w.sent → IsLineOf (line l))
      → HeadsLetThroughAreOf H line E w
  heads_of back sized w lines last steps through asked =
      let n : NewestIsOfFirst steps = newest w lines steps asked in
      ⊎_elim
      (λ (all : All (λ (s : HeadStep). IsHeadOfFirst H (take n.0 (tree_leaves E)) s.head) steps).
      inl (All-weaker (λ (s : HeadStep). IsHeadOfFirst H (take n.0 (tree_leaves E)) s.head) (λ (s : HeadStep). IsHeadOfFirst H (tree_leaves E) s.head)
      (λ (s : HeadStep). wider n.0 n.1 s.head) steps all))
      (λ (pair : CollideAmong H (IsHashedForHeads H last steps (take n.0 (tree_leaves E)))).
      inr (collide_more H (IsHashedForHeads H last steps (take n.0 (tree_leaves E))) (IsHashedForHeads H last steps (tree_leaves E))
      (more_hashed last steps n.0 (tree_leaves E) n.1) pair))
      (back H sized last steps (take n.0 (tree_leaves E)) through n.2)

pub guarded_heads_are_of_one_log : NodesWriteOneLog → AskedAreTaken → HeadsGoBack → GuardedHeadsAreOfOneLog
guarded_heads_are_of_one_log agree taken back H sized S line step plan known count b hs w begins leads is made E all =
    ⊎_elim
    (λ (r : (known ≡ take (length known) E) × StandsOf H line step b plan E w).
    inl (
      r.0,
      r.1,
      heads_of H line step w.made b known E back sized w
          (λ l sent. line_of H line step w.made b known E r.0 is l (r.1.past l (taken count b hs w begins leads l sent))),
    ))
    (λ (pair : CollideAmong H (IsHashedBySteps H S E)). inr pair)
    (agree H S line step plan known count b hs w begins leads is made E all)
