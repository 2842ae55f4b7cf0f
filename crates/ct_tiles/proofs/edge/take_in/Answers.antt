use Rattle.std.proofs.Common.{◌∙◌, ◌+◌, ◌/◌, ◌<◌, ◌++◌, ℕ, List, length, map, Vec, Global, sym, ap}
use Rattle.std.proofs.lemmas.List.{length_push}
use Rattle.ct_tiles.specs.Tiles.{up, behind}
use Rattle.ct_tiles.specs.Edge.{IsEdge}
use Rattle.ct_tiles.specs.declared.row.Row.{Row}
use Rattle.ct_tiles.proofs.Chunks.{added-zero, rows-zero, edge-zero, hashes-zero, length-hashes}
use Rattle.ct_tiles.proofs.Steps.{hashes_here, row_here, edge_here, fresh_here, rows_here, tiles_here}
use Rattle.ct_tiles.proofs.edge.take_in.Goals as goal

abbrev seen : Row → ℕ × List (List ℕ)
seen r = (r.first, r.hashes.items)

abbrev bytes : Vec (List ℕ) Global → List (List ℕ)
bytes t = t.items

pub loop-level-init : goal.loop-level-init
loop-level-init g c =
    let H = g.H.NodeHash.digest in
    let B = c.args.leaf_hashes.now in
    record {
      rows = λ D e. ap (map seen) c.new-rows.ensures.items ∙ sym (rows-zero H D B);
      tiles = λ D e. ap (map bytes) c.new-tiles.ensures.items ∙ sym (edge-zero H (D ++ B));
      fresh = λ D e. c.in_ok-fresh.ensures ∙ sym (added-zero H D B);
      known = λ D e. c.size-known.ensures ∙ e.size ∙ ap length (sym (hashes-zero H D));
      count = ap length c.new-tiles.ensures.items;
    }

pub loop-level-preserved : goal.loop-level-preserved
loop-level-preserved g c =
    let H = g.H.NodeHash.digest in
    let B = c.args.leaf_hashes.now in
    let level = c.loop-level.level in
    let below : level < 8 = c.loop-level-test.true in
    let old = c.loop-level.invariant in
    let all = c.in_ok-hashes.hashes.items in
    let here = λ (D : List (List ℕ)) (e : IsEdge H c.args.edge.now D).
    hashes_here H level D B c.args.edge.now e below c.tile.result.now c.loop-level.fresh.items all c.tile.ensures (old.fresh D e)
    (c.in_ok-hashes.ensures ∙ ap (λ x. c.tile.result.now ++ x) c.deref.ensures.value) in
    record {
      rows = λ D e. rows_here H level D B c.args.edge.now e below seen c.loop-level.rows.items c.push-in-loop-level.new.self.items _ c.in_ok-push-2.ensures.items (old.rows D e)
          (row_here H level D B c.args.edge.now e below c.loop-level.known all (old.known D e) (here D e));
      tiles = λ D e. tiles_here H level D B c.args.edge.now e below bytes c.loop-level.tiles.items c.push.new.self.items _ c.in_ok-push.ensures.items (old.tiles D e)
          (edge_here H level D B c.args.edge.now e below all c.in_ok-partial.field-0.items (here D e) (c.in_ok-partial.ensures ∙ ap (behind 256) c.deref-in-loop-level-2.ensures.value));
      fresh = λ D e. fresh_here H level D B c.args.edge.now e below all c.in_ok-fresh-2.fresh.items (here D e) (c.in_ok-fresh-2.ensures ∙ ap (up H 256) c.deref-in-loop-level.ensures.value);
      known = λ D e. ap (λ n. n / 256) (old.known D e) ∙ sym (length-hashes H level D);
      count = ap length c.in_ok-push.ensures.items ∙ length_push c.loop-level.tiles.items _ ∙ ap (λ n. n + 1) old.count;
    }
