-- The result of a step for a batch.
use Rattle.std.proofs.Common.{◌≡◌, ◌⊎◌, ◌∙◌, ℕ, suc, ◌-◌, ◌/◌, ◌<◌, ◌≤◌, ◌+◌, ◌^◌, List, [], ◌∷◌, ◌++◌, length, map, sym, refl, ap, subst, arith, inl, inr, ⊎_elim, Vec, Global, All}
use Rattle.std.proofs.lemmas.List.{length-map, map-append}
use Rattle.std.specs.Prelude.{Contains}
use Rattle.ct_codec.specs.Submitted.{Submitted, entry_of}
use Rattle.ct_tree.specs.Tree.{hash_leaf}
use Rattle.ct_data_tiles.specs.Rows.{data_tile, data_tiles_from, IsPartialTile, IsDataRow}
use Rattle.ct_data_tiles.specs.declared.row.DataRow.{DataRow}
use Rattle.ct_data_tiles.proofs.Rows.{text_in}
use Rattle.ct_step.specs.Believed.{BelievesState, IsHeadOver, IsHashedInEdgeOf}
use Rattle.ct_step.specs.EdgeStrings.{IsHashedInEdge}
use Rattle.ct_step.specs.Growths.{IsState}
use Rattle.ct_step.specs.Leaves.{indexed_leaves}
use Rattle.ct_step.specs.declared.growth.State.{State}
use Rattle.ct_step.specs.declared.growth.GrowthFault.TheVariants.{ClockBack, Full, Refused}
use Rattle.ct_step.proofs.EdgesTell.{believed_edges_tell, edges_are_believed, edge_32, leaves_32}
use Rattle.ct_step.specs.declared.line.StateLine.{StateLine}
use Rattle.ct_tiles.specs.Edge.{IsEdge}
use Rattle.ct_data_tiles.specs.TileLeaf.{Tiled, leaf_of, tile_leaf_text}
use Rattle.ct_verify.specs.Laws.{AreHashes}
use Rattle.ct_verify.proofs.Agreeing.{collide_more, one_hash}
use Rattle.ct_verify.specs.Hashed.{CollideAmong}
use Rattle.ct_step.specs.Entries.{tiled_at, tiled_leaves, texts_of, tree_leaves, hashes_of}
use Rattle.ct_step.specs.Steps.{new_entries, last_tiles, line_head, tile_hashes, AreBytesOf, IsLog, IsNamed, IsEdgeOf, IsHashedOfHanded, IsHashedOfLog, NamedEdgesTell, EdgesAreNamed, MayStep, StopsStep, StopsMade}
use Rattle.ct_step.specs.Lines.{HandedAttemptsAreAttempts}
use Rattle.ct_step.specs.declared.step.StepFault.{StepFault}
use Rattle.ct_step.specs.declared.step.StepFault.TheVariants.{Edge, Entries, Growth, TooLong}
use Rattle.ct_step.proofs.Batches.{Entry}
use Rattle.ct_step.proofs.Handed.{all-back}
use Rattle.ct_step.proofs.LinesAgree.{length-tiled}

-- the leaves of entries
pub leaves-made : (t first : ℕ) (B : List Entry) → tree_leaves (tiled_leaves t first B) ≡ indexed_leaves t first (map entry_of (map (λ (e : Entry). e.0) B))
unfolding tiled_leaves indexed_leaves
leaves-made t first [] = refl
leaves-made t first (e ∷ B) = ap (λ (x : List (List ℕ)). leaf_of (tiled_at t e first) ∷ x) (leaves-made t (suc first) B)

pub new-leaves : (E : List Tiled) (B : List Entry) (t : ℕ)
    → indexed_leaves t (length (tree_leaves E)) (map entry_of (map (λ (e : Entry). e.0) B)) ≡ tree_leaves (new_entries E B t)
new-leaves E B t =
    ap (λ (n : ℕ). indexed_leaves t n (map entry_of (map (λ (e : Entry). e.0) B))) (length-map E leaf_of) ∙ sym (leaves-made t (length E) B)

pub all-leaves : (E : List Tiled) (B : List Entry) (t : ℕ)
    → tree_leaves E ++ indexed_leaves t (length (tree_leaves E)) (map entry_of (map (λ (e : Entry). e.0) B)) ≡ tree_leaves (E ++ new_entries E B t)
all-leaves E B t =
    ap (λ (x : List (List ℕ)). tree_leaves E ++ x) (new-leaves E B t) ∙ sym (map-append leaf_of E (new_entries E B t))

-- the number of texts, and the number of submissions
pub count-made : (t first : ℕ) (B : List Entry) (X : List (Vec ℕ Global)) → map text_in X ≡ texts_of (tiled_leaves t first B) → length X ≡ length B
count-made t first B X e =
    sym (length-map X text_in) ∙ ap length e ∙ length-map (tiled_leaves t first B) tile_leaf_text ∙ length-tiled t first B

pub batch-size : (B : List Entry) (S : List Submitted) → S ≡ map (λ (e : Entry). e.0) B → length S ≡ length B
batch-size B S e = ap length e ∙ length-map B (λ (e : Entry). e.0)

-- the data tiles
pub row-made : (E : List Tiled) (B : List Entry) (t size : ℕ) (bytes : List ℕ) (X : List (List ℕ)) (Y : List (Vec ℕ Global)) (r : DataRow)
    → ((L : List (List ℕ)) → IsPartialTile L size bytes → IsDataRow L X r) → X ≡ map text_in Y → map text_in Y ≡ texts_of (tiled_leaves t size B)
    → IsPartialTile (texts_of E) size bytes → IsDataRow (texts_of E) (texts_of (new_entries E B t)) r
row-made E B t size bytes X Y r made e texts p =
    let n : size ≡ length E = p.0 ∙ length-map E tile_leaf_text in
    subst (λ (x : List (List ℕ)). IsDataRow (texts_of E) x r) (e ∙ texts ∙ ap (λ (k : ℕ). texts_of (tiled_leaves t k B)) n) (made (texts_of E) p)

pub last-made : (L N : List (List ℕ)) (r : DataRow) → IsDataRow L N r → map text_in r.full.items ++ r.partial.items ∷ [] ≡ last_tiles L N
last-made L N r d =
    ap (λ (x : List (List ℕ)). x ++ r.partial.items ∷ []) d.full
    ∙ ap (λ (x : List ℕ). data_tiles_from (length L / 256) (length (L ++ N) / 256 - length L / 256) (L ++ N) ++ x ∷ []) d.partial

-- the head of a log's line is that of its leaves
over : (H : List ℕ → List ℕ) (line : StateLine) (E : List Tiled) → IsLog H E line → IsHeadOver H (tree_leaves E) (line_head line)
over H line E log = (log.size ∙ sym (length-map E leaf_of), log.root, omega (arith, log.few, length-map E leaf_of))

-- the partial data tile of a log has the digest that the log's line has
tile_of_log : (L : List (List ℕ)) (n : ℕ) → length L ≡ n → data_tile (n / 256) L ≡ data_tile (length L / 256) L
tile_of_log L n e = ap (λ (k : ℕ). data_tile (k / 256) L) (sym e)

-- if a line names the received bytes, they are the edge of a log that has the line
pub named_edges_tell : NamedEdgesTell
named_edges_tell H long line E edge entries named log =
    let S : List ℕ → Type 0 = λ s. IsHashedOfHanded H edge entries s ⊎ IsHashedOfLog H E s in
    let texts : length (texts_of E) ≡ length E = length-map E tile_leaf_text in
    let T : List (List (List ℕ)) = named.tiles.0 in
    let read : T ≡ map tile_hashes edge = sym (all-back T named.tiles.2.hashes) ∙ ap (map tile_hashes) named.tiles.1 in
    ⊎_elim
    (λ (is : IsEdge H (line.tree_size, named.tiles.0) (hashes_of H E)).
    ⊎_elim
    (λ (same : entries ≡ data_tile (length E / 256) (texts_of E)).
    inl (record {
      tiles = (named.tiles.0, named.tiles.1, is);
      partial = (log.size ∙ sym texts, same ∙ tile_of_log (texts_of E) (length E) texts);
    }))
    (λ (found : CollideAmong H S). inr found)
    (one_hash H S entries (data_tile (length E / 256) (texts_of E)) (inl (inr refl)) (inr (inr refl)) (named.digest ∙ log.entries)))
    (λ (found : CollideAmong H (λ s. IsHashedInEdge H T s ⊎ IsHashedInEdgeOf H (tree_leaves E) s)).
    inr (collide_more H (λ s. IsHashedInEdge H T s ⊎ IsHashedInEdgeOf H (tree_leaves E) s) S
    (λ s h. ⊎_elim
    (λ (in_tiles : IsHashedInEdge H T s). inl (inl (subst (λ (x : List (List (List ℕ))). IsHashedInEdge H x s) read in_tiles)))
    (λ (in_edge : IsHashedInEdgeOf H (tree_leaves E) s). inr (inl in_edge))
    h)
    found))
    (believed_edges_tell H long (line_head line) (tree_leaves E) named.tiles.0 (over H line E log) named.tiles.2)

-- a line of a log names the log's edge
pub edges_are_named : EdgesAreNamed
edges_are_named H long line E edge entries is log =
    let texts : length (texts_of E) ≡ length E = length-map E tile_leaf_text in
    record {
      tiles = (is.tiles.0, is.tiles.1, edges_are_believed H long (line_head line) (tree_leaves E) is.tiles.0 (over H line E log) is.tiles.2);
      digest = ap H (is.partial.1 ∙ sym (tile_of_log (texts_of E) (length E) texts)) ∙ sym log.entries;
    }

-- a step that was made from any edge is an attempt
pub handed_attempts_are_attempts : HandedAttemptsAreAttempts
handed_attempts_are_attempts H long S b made all = (
  made.may.later,
  all b.attempt.step.bundle.items (inr refl),
  λ E log. ⊎_elim
      (λ (is : IsEdgeOf H E b.attempt.seen.tree_size b.edge b.entries). inl (made.step E is))
      (λ (found : CollideAmong H (λ s. IsHashedOfHanded H b.edge b.entries s ⊎ IsHashedOfLog H E s)).
      inr (collide_more H (λ s. IsHashedOfHanded H b.edge b.entries s ⊎ IsHashedOfLog H E s) (λ s. Contains S s ⊎ IsHashedOfLog H E s)
      (λ s h. ⊎_elim
      (λ (handed : IsHashedOfHanded H b.edge b.entries s). inl (all s (inl handed)))
      (λ (own : IsHashedOfLog H E s). inr own)
      h)
      found))
      (named_edges_tell H long b.attempt.seen E b.edge b.entries made.may.named log),
)

-- if the edge of a log was received, the state that was believed from it is the log's
pub edge_state : (H : List ℕ → List ℕ) → ((x : List ℕ) → length (H x) ≡ 32) → (line : StateLine) (edge : List (List ℕ)) (entries : List ℕ)
    (T : List (List (List ℕ))) (state : State) (E : List Tiled) → AreBytesOf T edge → BelievesState H (line_head line) T state
    → IsEdgeOf H E line.tree_size edge entries → IsState H state (tree_leaves E)
edge_state H long line edge entries T state E bytes b is =
    let D = tree_leaves E in
    let S : List (List (List ℕ)) = is.tiles.0 in
    let shown : IsEdge H (line.tree_size, S) (map (hash_leaf H) D) = is.tiles.2 in
    let hashes : All AreHashes S = subst (All AreHashes) (sym shown.tiles) (edge_32 H long 8 (map (hash_leaf H) D) (leaves_32 H long D)) in
    let same : S ≡ T = sym (all-back S hashes) ∙ ap (map tile_hashes) (is.tiles.1 ∙ sym bytes) ∙ all-back T b.believed.hashes in
    subst (λ (e : ℕ × List (List (List ℕ))). IsEdge H e (map (hash_leaf H) D)) (sym b.edge)
    (subst (λ (t : List (List (List ℕ))). IsEdge H (line.tree_size, t) (map (hash_leaf H) D)) same shown)

-- a fault of the state's step is the line's
module _ (H : List ℕ → List ℕ) (long : (x : List ℕ) → length (H x) ≡ 32) (line : StateLine) (edge : List (List ℕ)) (entries : List ℕ) (B : List Entry) (now : ℕ) (T : List (List (List ℕ))) (state : State) (bytes : AreBytesOf T edge) (b : BelievesState H (line_head line) T state) (d : H entries ≡ line.data_tile) where
  named : IsNamed H line edge entries
  named = record { tiles = (T, bytes, b.believed); digest = d }

  pub may_step : state.timestamp < now → state.edge.0 + length B ≤ 2 ^ 40 → MayStep H line edge entries B now
  may_step later fits = record {
    named = named;
    later = omega (arith, b.moment, later);
    fits = omega (arith, ap (λ (x : ℕ × List (List (List ℕ))). x.0) b.edge, fits);
  }

  pub stops_step : (fault : StepFault) → StopsMade H line state entries B now fault → StopsStep H line edge entries B now fault
  stops_step Edge s = absurd s
  stops_step Entries s = absurd s
  stops_step (Growth ClockBack) s = (named, omega (arith, b.moment, s))
  stops_step (Growth Full) s =
      (named, omega (arith, b.moment, s.0), omega (arith, ap (λ (x : ℕ × List (List (List ℕ))). x.0) b.edge, s.1))
  stops_step (Growth (Refused refusal)) s = s.1
  stops_step TooLong s =
      (may_step s.0.0 s.0.1, λ E is. s.1 E (edge_state H long line edge entries T state E bytes b is) is.partial)
