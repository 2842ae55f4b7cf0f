-- All steps whose heads the lock took belong to one list, or two of the strings that are hashed collide. S determines which strings these
-- are.
use Rattle.std.proofs.Common.{◌≡◌, ◌⊎◌, ◌∙◌, ℕ, ◌<◌, ◌≤◌, true, cond, List, [], ◌∷◌, ◌++◌, length, map, take, sym, refl, ap, subst, arith, inl, inr, ⊎_elim}
use Rattle.std.proofs.Common.{append_assoc, append-nil, length-append}
use Rattle.std.specs.Prelude.{if◌then◌else◌, Bool, false}
use Rattle.std.proofs.lemmas.List.{length-map, take_at}
use Rattle.ct_codec.specs.Submitted.{entry_of}
use Rattle.ct_tree.specs.Tree.{hash_leaf}
use Rattle.ct_tree.specs.declared.head.Head.{Head}
use Rattle.ct_tiles.specs.Edge.{IsEdge}
use Rattle.ct_verify.proofs.Agreeing.{collide_more}
use Rattle.ct_verify.specs.Hashed.{CollideAmong}
use Rattle.ct_step.specs.Believed.{BelievesState, IsHeadOver, IsHashedInEdgeOf}
use Rattle.ct_step.specs.EdgeStrings.{IsHashedInEdge}
use Rattle.ct_step.specs.Growths.{IsState, IsGrowth}
use Rattle.ct_step.specs.History.{Attempt, IsMade, taken}
use Rattle.ct_step.specs.Handed.{HandedAttempt, AreHandedAttempts, attempts_of, leaves_after, IsHashedInTiles, IsHashedInEdgesOf, HandedSequencersAgree}
use Rattle.ct_step.proofs.Agree.{new_leaves, Carried, carried_none, carried_more}
use Rattle.ct_step.proofs.EdgesTell.{believed_edges_tell}
use Rattle.ct_step.proofs.Steps.{length-indexed}

-- the leaves after attempts begin with those that were known
after_begins : (known : List (List ℕ)) (attempts : List HandedAttempt) → (Z : List (List ℕ)) × (leaves_after known attempts ≡ known ++ Z)
unfolding leaves_after
after_begins known [] = ([], sym (append-nil known))
after_begins known (b ∷ rest) =
    by_took b.attempt.took (after_begins (known ++ new_leaves known b.attempt) rest) (after_begins known rest)
  where
    N : List (List ℕ)
    N = new_leaves known b.attempt

    by_took : (t : Bool) → ((Z : List (List ℕ)) × (leaves_after (known ++ N) rest ≡ (known ++ N) ++ Z))
        → ((Z : List (List ℕ)) × (leaves_after known rest ≡ known ++ Z))
        → (Z : List (List ℕ)) × (leaves_after (if t then known ++ N else known) rest ≡ known ++ Z)
    by_took true more same = (N ++ more.0, more.1 ∙ append_assoc known N more.0)
    by_took false more same = same

module _ (H : List ℕ → List ℕ) (long : (x : List ℕ) → length (H x) ≡ 32) where
  -- the head of the step is that of the leaves that follow
  head_over : (a : Attempt) (known : List (List ℕ)) → IsState H a.seen known → IsMade H a → IsGrowth H known (map entry_of a.batch) a.now a.growth
      → IsHeadOver H (known ++ new_leaves known a) a.growth.head
  head_over a known s made g =
      let n : length (new_leaves known a) ≡ length a.batch = length-indexed a.now (length known) (map entry_of a.batch) ∙ length-map a.batch entry_of in
      let size : a.seen.edge.0 ≡ length known = s.size ∙ length-map known (hash_leaf H) in
      (g.size, g.root, omega (arith, n, size, made.0.1, length-append known (new_leaves known a)))

  module _ (S : List ℕ → Type 0) (D : List (List ℕ)) (edges : (s : List ℕ) → IsHashedInEdgesOf H D s → S s) where
    abbrev Agreed : Head → List (List ℕ) → List HandedAttempt → Type 0
    Agreed held known attempts = Carried H held.timestamp (length known) D (taken (attempts_of attempts)) ⊎ CollideAmong H S

    abbrev HasTiles : List HandedAttempt → Type 0
    HasTiles attempts = (s : List ℕ) → IsHashedInTiles H attempts s → S s

    begins : (known Z : List (List ℕ)) → D ≡ known ++ Z → (known ≡ take (length known) D) × (length known ≤ length D)
    begins known Z e =
        (sym (take_at known Z (length known) refl) ∙ ap (take (length known)) (sym e), omega (arith, ap length e, length-append known Z))

    -- the state that was believed is that of the known leaves
    state_known : (b : HandedAttempt) (known Z : List (List ℕ)) → D ≡ known ++ Z → ((s : List ℕ) → IsHashedInEdge H b.tiles s → S s)
        → IsHeadOver H known b.head → BelievesState H b.head b.tiles b.attempt.seen → IsState H b.attempt.seen known ⊎ CollideAmong H S
    state_known b known Z e tiles over believed =
        let start = begins known Z e in
        ⊎_elim
        (λ (is : IsEdge H (b.head.tree_size, b.tiles) (map (hash_leaf H) known)).
        inl (subst (λ (x : ℕ × List (List (List ℕ))). IsEdge H x (map (hash_leaf H) known)) (sym believed.edge) is))
        (λ (found : CollideAmong H (λ s. IsHashedInEdge H b.tiles s ⊎ IsHashedInEdgeOf H known s)).
        inr (collide_more H (λ s. IsHashedInEdge H b.tiles s ⊎ IsHashedInEdgeOf H known s) S
        (λ s h. ⊎_elim
        (λ (in_tiles : IsHashedInEdge H b.tiles s). tiles s in_tiles)
        (λ (in_edge : IsHashedInEdgeOf H known s).
        edges s (length known, start.1, subst (λ (K : List (List ℕ)). IsHashedInEdgeOf H K s) start.0 in_edge))
        h)
        found))
        (believed_edges_tell H long b.head known b.tiles over believed.believed)

    -- one step before those that follow
    step_before : (held : Head) (known Z : List (List ℕ)) (b : HandedAttempt) (rest : List HandedAttempt) → b.attempt.took ≡ true
        → D ≡ (known ++ new_leaves known b.attempt) ++ Z → held.timestamp < b.attempt.now
        → IsGrowth H known (map entry_of b.attempt.batch) b.attempt.now b.attempt.growth
        → Agreed b.attempt.growth.head (known ++ new_leaves known b.attempt) rest → Agreed held known (b ∷ rest)
    step_before held known Z b rest took e since g (inr found) = inr found
    step_before held known Z b rest took e since g (inl behind) =
        let a = b.attempt in
        let N = new_leaves known a in
        let steps = taken (attempts_of rest) in
        let kept : taken (attempts_of (b ∷ rest)) ≡ a ∷ steps = ap (λ t. cond t (a ∷ steps) steps) took in
        let moved : Carried H a.growth.state.timestamp (length (known ++ N)) ((known ++ N) ++ Z) steps =
        subst (λ (X : List (List ℕ)). Carried H a.growth.state.timestamp (length (known ++ N)) X steps) e
        (subst (λ (t : ℕ). Carried H t (length (known ++ N)) D steps) (g.timestamp ∙ sym g.moment) behind) in
        inl (subst (λ (x : List Attempt). Carried H held.timestamp (length known) D x) (sym kept)
        (subst (λ (X : List (List ℕ)). Carried H held.timestamp (length known) X (a ∷ steps)) (sym e)
        (carried_more H held.timestamp known Z a steps since g moved)))

    agree_from : (held : Head) (known : List (List ℕ)) (attempts : List HandedAttempt) → D ≡ leaves_after known attempts → HasTiles attempts
        → IsHeadOver H known held → AreHandedAttempts H held attempts → Agreed held known attempts
    unfolding AreHandedAttempts leaves_after IsHashedInTiles
    agree_from held known [] all tiles over made = inl (carried_none H held.timestamp (length known) D)
    agree_from held known (b ∷ rest) all tiles over (made, inl (took, seen, more)) =
        let a = b.attempt in
        let N = new_leaves known a in
        let after : D ≡ leaves_after (known ++ N) rest = all ∙ ap (λ (t : Bool). leaves_after (if t then known ++ N else known) rest) took in
        let end = after_begins (known ++ N) rest in
        let whole : D ≡ (known ++ N) ++ end.0 = after ∙ end.1 in
        let since : held.timestamp < a.now = omega (arith, made.1.0.0, made.0.moment, ap (λ (x : Head). x.timestamp) seen) in
        ⊎_elim
        (λ (s : IsState H a.seen known).
        let g = made.1.1 known s in
        step_before held known end.0 b rest took whole since g
        (agree_from a.growth.head (known ++ N) rest after (λ x h. tiles x (inr h)) (head_over a known s made.1 g) more))
        (λ (found : CollideAmong H S). inr found)
        (state_known b known (N ++ end.0) (whole ∙ append_assoc known N end.0) (λ x h. tiles x (inl h))
        (subst (λ (x : Head). IsHeadOver H known x) (sym seen) over) made.0)
    agree_from held known (b ∷ rest) all tiles over (made, inr (left, more)) =
        let steps = taken (attempts_of rest) in
        let kept : taken (attempts_of (b ∷ rest)) ≡ steps = ap (λ t. cond t (b.attempt ∷ steps) steps) left in
        let after : D ≡ leaves_after known rest =
        all ∙ ap (λ (t : Bool). leaves_after (if t then known ++ new_leaves known b.attempt else known) rest) left in
        passed kept (agree_from held known rest after (λ x h. tiles x (inr h)) over more)
      where
        passed : taken (attempts_of (b ∷ rest)) ≡ taken (attempts_of rest) → Agreed held known rest → Agreed held known (b ∷ rest)
        passed e (inr found) = inr found
        passed e (inl behind) = inl (subst (λ (x : List Attempt). Carried H held.timestamp (length known) D x) (sym e) behind)

pub handed_sequencers_agree : HandedSequencersAgree
handed_sequencers_agree H long held known attempts over made D all =
    let S : List ℕ → Type 0 = λ s. IsHashedInTiles H attempts s ⊎ IsHashedInEdgesOf H D s in
    let end = after_begins known attempts in
    ⊎_elim
    (λ (behind : Carried H held.timestamp (length known) D (taken (attempts_of attempts))).
    inl ((begins H long S D (λ s h. inr h) known end.0 (all ∙ end.1)).0, behind.carry))
    (λ (found : CollideAmong H S). inr found)
    (agree_from H long S D (λ s h. inr h) held known attempts all (λ s h. inl h) over made)
