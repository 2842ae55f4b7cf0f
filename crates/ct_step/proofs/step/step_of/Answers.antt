use Rattle.std.proofs.Common.{◌≡◌, ◌∙◌, ◌/◌, ℕ, Bool, List, [], ◌∷◌, ◌++◌, length, map, All, arith, sym, ap, subst, length-append}
use Rattle.std.specs.Bool.{MatchBool}
use Rattle.std.proofs.lemmas.List.{length-map, map-append}
use Rattle.std.proofs.lemmas.List.Elements.{All-append}
use Rattle.std.proofs.lemmas.Simd.{map-map}
use Rattle.ct_codec.specs.Signed.{tree_head_text}
use Rattle.ct_codec.specs.Submitted.{Submitted, entry_of}
use Rattle.ct_tree.specs.Tree.{hash_leaf, mth_of_leaves}
use Rattle.ct_tiles.specs.Tiles.{rows}
use Rattle.ct_data_tiles.specs.Rows.{data_tile, IsDataRow}
use Rattle.ct_data_tiles.proofs.Rows.{text_in}
use Rattle.ct_step.specs.declared.line.StateLine.{StateLine}
use Rattle.ct_step.specs.Growths.{IsGrowth, IsGrownFrom}
use Rattle.ct_step.specs.Leaves.{receipts_from, indexed_leaves}
use Rattle.ct_step.proofs.EdgesTell.{leaves_32}
use Rattle.ct_step.proofs.Roots.{has_32}
use Rattle.ct_step.specs.Bundle.{IsObject}
use Rattle.ct_data_tiles.specs.TileLeaf.{leaf_of, tile_leaf_text}
use Rattle.ct_step.specs.Entries.{texts_of, tree_leaves, hashes_of}
use Rattle.ct_step.specs.Objects.{level_objects, data_objects, row_tiles, FitsInBundle}
use Rattle.ct_step.specs.Steps.{new_entries}
use Rattle.ct_step.proofs.Batches.{Entry}
use Rattle.ct_step.proofs.Fitting.{levels-fit, data-fit}
use Rattle.ct_step.proofs.LinesAgree.{length-tiled}
use Rattle.ct_step.proofs.Made.{new-leaves, all-leaves, count-made, batch-size, row-made, last-made}
use Rattle.ct_step.proofs.step.step_of.Goals as goal

pub returns-then-not-fits-clause-may : goal.returns-then-not-fits-clause-may
returns-then-not-fits-clause-may g c =
    let B : List Entry = c.args.batch.now in
    let r = c.in_ok-row.row in
    let written = map text_in r.full.items ++ r.partial.items ∷ [] in
    let long : All FitsInBundle written → ⊥ =
    subst (λ (b : Bool). MatchBool b (All FitsInBundle written) (All FitsInBundle written → ⊥)) c.if-not-fits.true c.fits.ensures in (
      (c.in_ok-growth.ensures.may.0, omega (arith, c.in_ok-growth.ensures.may.1, batch-size B c.submissions.result.now c.submissions.ensures)),
      λ E s p short.
          let row = row-made E B c.args.now c.args.line.now.tree_size c.args.entries.now (map text_in c.deref.result.now) c.in_ok-texts.texts.items r
          c.in_ok-row.ensures (ap (map text_in) c.deref.ensures.value) c.in_ok-texts.ensures.texts p in
          long (subst (All FitsInBundle) (sym (last-made (texts_of E) (texts_of (new_entries E B c.args.now)) r row)) short),
    )

pub bundle_of-requires-clause-size : goal.bundle_of-requires-clause-size
bundle_of-requires-clause-size g c =
    let B : List Entry = c.args.batch.now in
    omega (
      arith,
      c.requires,
      c.in_ok-growth.ensures.may.1,
      batch-size B c.submissions.result.now c.submissions.ensures,
      c.len.ensures,
      c.in_ok-texts.texts.ok.0,
      count-made c.args.now c.args.line.now.tree_size B c.in_ok-texts.texts.items c.in_ok-texts.ensures.texts,
    )

pub returns-clause-from : goal.returns-clause-from
returns-clause-from g c =
    let now = c.args.now in
    let line : StateLine = c.args.line.now in
    let next : StateLine = c.in_ok-next.next in
    let B : List Entry = c.args.batch.now in
    let grown : IsGrownFrom c.args.state.now (map entry_of c.submissions.result.now) now c.in_ok-growth.growth = c.in_ok-growth.ensures.grown in
    record {
      receipts = grown.receipts
          ∙ ap (λ (n : ℕ). receipts_from now n (map entry_of c.submissions.result.now)) c.requires
          ∙ ap (λ (x : List Submitted). receipts_from now line.tree_size (map entry_of x)) c.submissions.ensures
          ∙ ap (receipts_from now line.tree_size) (map-map entry_of (λ (e : Entry). e.0) B);
      size = omega (
        arith,
        ap (λ (x : StateLine). x.tree_size) c.in_ok-next.ensures,
        grown.size,
        c.requires,
        length-map c.submissions.result.now entry_of,
        batch-size B c.submissions.result.now c.submissions.ensures,
      );
      moment = ap (λ (x : StateLine). x.timestamp) c.in_ok-next.ensures ∙ grown.timestamp;
      digest = ap (λ (x : StateLine). x.bundle) c.in_ok-next.ensures ∙ ap g.H.NodeHash.digest c.deref-3.ensures.value;
      partial = ap (λ (x : StateLine). x.data_tile) c.in_ok-next.ensures ∙ ap g.H.NodeHash.digest c.deref-4.ensures.value;
      before = ap (λ (x : StateLine). x.before) c.in_ok-next.ensures;
      signed = c.in_ok-tree_head_signature_input.ensures.text;
    }

pub returns-clause-step : goal.returns-clause-step
returns-clause-step g c = λ E s p.
    let H = g.H.NodeHash.digest in
    let size_digest = g.met.H.NodeHash.length_digest in
    let now = c.args.now in
    let line : StateLine = c.args.line.now in
    let next : StateLine = c.in_ok-next.next in
    let B : List Entry = c.args.batch.now in
    let firsts : List Submitted = map (λ (e : Entry). e.0) B in
    let entries = map entry_of firsts in
    let D = tree_leaves E in
    let N = new_entries E B now in
    let L = texts_of E in
    let all = E ++ N in
    let r = c.in_ok-row.row in
    let grown : IsGrowth H D entries now c.in_ok-growth.growth =
    subst (λ (x : List Submitted). IsGrowth H D (map entry_of x) now c.in_ok-growth.growth) c.submissions.ensures (c.in_ok-growth.ensures.growth D s) in
    let row : IsDataRow L (texts_of N) r =
    row-made E B now line.tree_size c.args.entries.now (map text_in c.deref.result.now) c.in_ok-texts.texts.items r
    c.in_ok-row.ensures (ap (map text_in) c.deref.ensures.value) c.in_ok-texts.ensures.texts p in
    let size : line.tree_size ≡ length E = p.0 ∙ length-map E tile_leaf_text in
    let leaves : D ++ indexed_leaves now (length D) entries ≡ tree_leaves all = all-leaves E B now in
    let tree_size : next.tree_size ≡ length all =
    ap (λ (x : StateLine). x.tree_size) c.in_ok-next.ensures ∙ grown.size ∙ ap length leaves ∙ length-map all leaf_of in
    let root : next.root ≡ mth_of_leaves H (tree_leaves all) =
    ap (λ (x : StateLine). x.root) c.in_ok-next.ensures ∙ grown.root ∙ ap (mth_of_leaves H) leaves in
    let count : length N ≡ length B = length-tiled now (length E) B in
    let texts : L ++ texts_of N ≡ texts_of all = sym (map-append tile_leaf_text E N) in
    let written = map text_in r.full.items ++ r.partial.items ∷ [] in
    let short : All FitsInBundle written =
    subst (λ (b : Bool). MatchBool b (All FitsInBundle written) (All FitsInBundle written → ⊥)) c.if-not-fits.false c.fits.ensures in
    record {
      receipts = grown.receipts ∙ ap (λ (n : ℕ). receipts_from now n entries) (length-map E leaf_of)
          ∙ ap (receipts_from now (length E)) (map-map entry_of (λ (e : Entry). e.0) B);
      signed = c.in_ok-tree_head_signature_input.ensures.text
          ∙ ap (λ (n : ℕ). tree_head_text now n next.root) tree_size
          ∙ ap (tree_head_text now (length all)) root;
      bundle = record {
        fit = All-append IsObject (level_objects H 8 (hashes_of H E) (hashes_of H N)) (data_objects L (texts_of N))
            (levels-fit H size_digest 8 (hashes_of H E) (hashes_of H N)
            (All-append has_32 (hashes_of H E) (hashes_of H N) (leaves_32 H size_digest D) (leaves_32 H size_digest (tree_leaves N))))
            (data-fit L (texts_of N) (subst (All FitsInBundle) (last-made L (texts_of N) r row) short));
        text = c.in_ok-bundle.ensures H (hashes_of H E) (hashes_of H N) L (texts_of N)
            (size ∙ sym (length-map E leaf_of) ∙ sym (length-map D (hash_leaf H)))
            (ap row_tiles c.deref-2.ensures.value ∙ grown.rows
            ∙ ap (λ (x : List (List ℕ)). rows H 256 8 (hashes_of H E) (map (hash_leaf H) x)) (new-leaves E B now))
            p.0
            (omega (
              arith,
              c.len.ensures,
              c.in_ok-texts.texts.ok.0,
              count,
              length-map N tile_leaf_text,
              count-made now line.tree_size B c.in_ok-texts.texts.items c.in_ok-texts.ensures.texts,
            ))
            row;
      };
      log = record {
        few = omega (arith, length-append E N, count, size, c.requires, c.in_ok-growth.ensures.may.1, batch-size B c.submissions.result.now c.submissions.ensures);
        size = tree_size;
        root = root;
        entries = ap (λ (x : StateLine). x.data_tile) c.in_ok-next.ensures
            ∙ ap H (c.deref-4.ensures.value ∙ row.partial
            ∙ ap (λ (x : List (List ℕ)). data_tile (length x / 256) x) texts
            ∙ ap (λ (n : ℕ). data_tile (n / 256) (texts_of all)) (length-map all tile_leaf_text));
      };
      moment = ap (λ (x : StateLine). x.timestamp) c.in_ok-next.ensures ∙ grown.timestamp;
      digest = ap (λ (x : StateLine). x.bundle) c.in_ok-next.ensures ∙ ap H c.deref-3.ensures.value;
      before = ap (λ (x : StateLine). x.before) c.in_ok-next.ensures;
    }
