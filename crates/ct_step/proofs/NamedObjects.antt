-- The objects of a step have the names of tiles.
use Rattle.std.proofs.Common.{◌≡◌, ◌∙◌, ◌⊎◌, inl, inr, ⊎_elim, ℕ, zero, suc, ◌+◌, ◌-◌, ◌*◌, ◌/◌, ◌<◌, ◌≤◌, List, [], ◌∷◌, ◌++◌, length, take, drop, All, Option, Some, None, refl, ap, subst, arith, length-append}
use Rattle.std.specs.Prelude.{true, false, nat_lt, if◌then◌else◌, ◌^◌}
use Rattle.std.proofs.lemmas.List.{length-drop}
use Rattle.std.proofs.lemmas.List.Elements.{All-nil, All-cons, All-append}
use Rattle.ct_data_tiles.specs.TileNames.{IsContent}
use Rattle.ct_data_tiles.specs.declared.tile.Content.{Content}
use Rattle.ct_data_tiles.specs.declared.tile.Content.TheVariants.{Hashes, Entries}
use Rattle.ct_data_tiles.specs.declared.tile.Tile.{Tile}
use Rattle.ct_tiles.specs.Tiles.{hashes}
use Rattle.ct_tiles.proofs.Cuts.{cut_width, hashes_short}
use Rattle.ct_data_tiles.specs.TileLeaf.{Tiled}
use Rattle.ct_step.specs.declared.line.StateLine.{StateLine}
use Rattle.ct_step.proofs.StateLines.{state_lines_differ}
use Rattle.ct_step.proofs.Lengths.{length_hashes, length_texts}
use Rattle.ct_step.specs.Entries.{texts_of, hashes_of}
use Rattle.ct_step.specs.Objects.{named, hash_object, entry_object, each_from, changed, level_objects, data_objects}
use Rattle.ct_step.specs.Steps.{new_entries, step_objects, IsEdgeOf, IsHashedOfHanded, IsHashedOfLog, IsLog, IsTiledStep, NamedEdgesTell}
use Rattle.ct_step.specs.declared.step.Step.{Step}
use Rattle.ct_verify.proofs.Agreeing.{collide_more}
use Rattle.ct_verify.specs.Hashed.{CollideAmong}
use Rattle.ct_step.specs.RolledOut.{RepliedObjectsChange}
use Rattle.ct_step.specs.StepAnswers.{edge_of, AreObjectsIn, IsStepReplyBy, IsBoundedReplyBy}
use Rattle.ct_step.specs.StepRepeats.{BatchEntry, first_of_each}
use Rattle.ct_step.specs.StepWords.{IsTileName, Reference, references_of, steps, refuses}
use Rattle.ct_step.specs.declared.answer.StepRefusal.{StepRefusal}
use Rattle.ct_step.proofs.RolledOut.{one_list}

abbrev HasTileName : List ℕ × List ℕ → Type 0
HasTileName o = IsTileName o.0

all_each : (object : ℕ → List ℕ × List ℕ) (first count : ℕ) → ((i : ℕ) → i < count → HasTileName (object (first + i)))
    → All HasTileName (each_from object first count)
unfolding each_from
all_each object first zero each = All-nil HasTileName
all_each object first (suc count) each =
    All-append HasTileName (each_from object first count) (object (first + count) ∷ [])
    (all_each object first count (λ i h. each i (omega (arith, h))))
    (All-cons HasTileName (object (first + count)) [] (each count (omega arith)) (All-nil HasTileName))

all_changed : (object : ℕ → List ℕ × List ℕ) (m n : ℕ) → ((i : ℕ) → 256 * i < n → HasTileName (object i)) → All HasTileName (changed object m n)
all_changed object m n each =
    elim (nat_lt m n) as (λ t. All HasTileName (if t then each_from object (m / 256) ((n + 255) / 256 - m / 256) else [])) [
      | true ↦ all_each object (m / 256) ((n + 255) / 256 - m / 256) (λ i h. each (m / 256 + i) (omega (arith, h)))
      | false ↦ All-nil HasTileName
    ]

named_tile : (c : Content) (i : ℕ) (P : List (List ℕ)) → IsContent c → 256 * i < length P → length P < 2 ^ 64
    → HasTileName (named c i (take 256 (drop (256 * i) P)))
named_tile c i P is b few =
    let xs = drop (256 * i) P in
    let w = cut_width xs (omega (arith, length-drop (256 * i) P, b)) in
    let t : Tile = record { content = c; index = i; width = length (take 256 xs) } in
    (t, record { content = is; some = w.0; most = w.1; index = omega (arith, b, few) }, refl)

module _ (H : List ℕ → List ℕ) where
  levels_named : (levels : ℕ) (D B : List (List ℕ)) → levels ≤ 64 → length (D ++ B) < 2 ^ 64 → All HasTileName (level_objects H levels D B)
  unfolding level_objects
  levels_named zero D B most few = All-nil HasTileName
  levels_named (suc levels) D B most few =
      let P = hashes H 256 levels (D ++ B) in
      All-append HasTileName (level_objects H levels D B) (changed (hash_object H (D ++ B) levels) (length (hashes H 256 levels D)) (length P))
      (levels_named levels D B (omega (arith, most)) few)
      (all_changed (hash_object H (D ++ B) levels) (length (hashes H 256 levels D)) (length P)
      (λ i b. named_tile (Hashes levels) i P (omega (arith, most)) b (omega (arith, hashes_short H levels (D ++ B), few))))

  objects_named : (A N : List Tiled) → length (A ++ N) < 2 ^ 64 → All HasTileName (step_objects H A N)
  objects_named A N few =
      let D = hashes_of H A in
      let B = hashes_of H N in
      let L = texts_of A in
      let T = texts_of N in
      let sum : length (A ++ N) ≡ length A + length N = length-append A N in
      let hashed : length (D ++ B) ≡ length D + length B = length-append D B in
      let written : length (L ++ T) ≡ length L + length T = length-append L T in
      All-append HasTileName (level_objects H 8 D B) (data_objects L T)
      (levels_named 8 D B (omega arith) (omega (arith, few, sum, hashed, length_hashes H A, length_hashes H N)))
      (all_changed (entry_object (L ++ T)) (length L) (length (L ++ T))
      (λ i b. named_tile Entries i (L ++ T) tt b (omega (arith, few, sum, written, length_texts A, length_texts N))))

-- ---- a step in a reply

no_refusal : (s : Step) (p : List ℕ) (o : List Reference) (r : StepRefusal) → steps s p o ≡ refuses r → ⊥
no_refusal s p o r e = cc

same_objects : (s t : Step) (p q : List ℕ) (a b : List Reference) → steps s p a ≡ steps t q b → a ≡ b
same_objects s t p q a b e = cc

-- the strings that are hashed for an edge, if one was received
abbrev OfEdge : (List ℕ → List ℕ) → Option (List (List ℕ) × List ℕ) → List ℕ → Type 0
OfEdge H handed s = (edge : List (List ℕ) × List ℕ) × (handed ≡ Some edge) × IsHashedOfHanded H edge.0 edge.1 s

abbrev Changed : (List ℕ → List ℕ) → List Tiled → Option (List (List ℕ) × List ℕ) → List BatchEntry → ℕ → List Reference → Type 0
Changed H E handed batch now objects =
    (objects ≡ references_of H (step_objects H E (new_entries E (first_of_each [] batch) now)))
    ⊎ CollideAmong H (λ s. OfEdge H handed s ⊎ IsHashedOfLog H E s)

own_objects : (H : List ℕ → List ℕ) (line : StateLine) (E : List Tiled) (batch : List BatchEntry) (now : ℕ) (s : Step) (found : List (List ℕ × List ℕ))
    → IsTiledStep H line E batch now s → AreObjectsIn s.bundle.items found → found ≡ step_objects H E (new_entries E batch now)
own_objects H line E batch now s found made (inl is) = one_list found (step_objects H E (new_entries E batch now)) s.bundle.items is.0 made.bundle
own_objects H line E batch now s found made (inr none) =
    let N = new_entries E batch now in
    absurd (none.1 (step_objects H E N) (made.bundle, objects_named H E N made.log.few))

told : NamedEdgesTell → (H : List ℕ → List ℕ) → ((x : List ℕ) → length (H x) ≡ 32) → (line : StateLine) (batch : List BatchEntry) (now : ℕ) (step : Step) (places : List ℕ)
    (objects : List Reference) (E : List Tiled) (edge : Option (List (List ℕ) × List ℕ)) → IsStepReplyBy H line edge batch now (steps step places objects)
    → IsLog H E line → Changed H E edge batch now objects
told tell H len line batch now step places objects E None is log = absurd (no_refusal step places objects _ is)
told tell H len line batch now step places objects E (Some edge) (inl tells) log =
    let F = first_of_each [] batch in
    ⊎_elim
    (λ (e : IsEdgeOf H E line.tree_size edge.0 edge.1).
    inl (same_objects step tells.0 places _ objects (references_of H tells.1) tells.2
    ∙ ap (references_of H) (own_objects H line E F now tells.0 tells.1 (tells.6 E e) tells.3)))
    (λ (c : CollideAmong H (λ s. IsHashedOfHanded H edge.0 edge.1 s ⊎ IsHashedOfLog H E s)).
    inr (collide_more H (λ s. IsHashedOfHanded H edge.0 edge.1 s ⊎ IsHashedOfLog H E s) (λ s. OfEdge H (Some edge) s ⊎ IsHashedOfLog H E s)
    (λ s h. ⊎_elim
    (λ (handed : IsHashedOfHanded H edge.0 edge.1 s). inl (edge, refl, handed))
    (λ (own : IsHashedOfLog H E s). inr own)
    h)
    c))
    (tell H len line E edge.0 edge.1 tells.4.named log)
told tell H len line batch now step places objects E (Some edge) (inr none) log = absurd (no_refusal step places objects none.1 none.2)

told_near : NamedEdgesTell → (H : List ℕ → List ℕ) → ((x : List ℕ) → length (H x) ≡ 32) → (line : StateLine) (batch : List BatchEntry) (now most : ℕ) (step : Step)
    (places : List ℕ) (objects : List Reference) (E : List Tiled) (edge : Option (List (List ℕ) × List ℕ))
    → IsBoundedReplyBy H line edge batch now most (steps step places objects) → IsLog H E line → Changed H E edge batch now objects
told_near tell H len line batch now most step places objects E edge (inl far) log = absurd (no_refusal step places objects _ far.1)
told_near tell H len line batch now most step places objects E edge (inr near) log = told tell H len line batch now step places objects E edge near.1 log

pub replied_objects_change : NamedEdgesTell → RepliedObjectsChange
replied_objects_change tell H len line batch contents now most step places objects E known (inl of) log =
    let same : of.0 ≡ line = state_lines_differ of.0 line of.1 known of.2 in
    told_near tell H len line batch now most step places objects E (edge_of line.tree_size contents)
    (subst (λ (l : StateLine). IsBoundedReplyBy H l (edge_of l.tree_size contents) batch now most (steps step places objects)) same of.3) log
replied_objects_change tell H len line batch contents now most step places objects E known (inr none) log = absurd (no_refusal step places objects _ none.1)
