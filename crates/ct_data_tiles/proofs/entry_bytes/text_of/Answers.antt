use Rattle.std.proofs.Common.{◌∙◌, ◌++◌, ◌∷◌, [], ℕ, List, length, refl, sym, ap, arith, length-append}
use Rattle.ct_data_tiles.specs.Lent.{tiled}
use Rattle.ct_data_tiles.specs.TileLeaf.{tile_leaf_text}
use Rattle.ct_data_tiles.specs.DataTile.{tile_leaves_text}
use Rattle.ct_data_tiles.proofs.Tiles.{one_more_leaf, some_bytes}
use Rattle.ct_data_tiles.specs.TileEntries.{tile_entry_bytes, tile_entries_bytes}
use Rattle.ct_data_tiles.proofs.Places.{texts_split, no_entries, entries_follow}
use Rattle.ct_data_tiles.proofs.entry_bytes.text_of.Goals as goal

pub leaves-init : goal.leaves-init
leaves-init c = ([], record { each = tt; text = sym c.new-reader.ensures }, refl, refl, c.new-text.ensures.items ∙ sym (no_entries 0), omega (arith, ap length c.new-reader.ensures))

pub leaves-preserved : goal.leaves-preserved
leaves-preserved c =
    let found = c.in-Ok.ensures.found in
    let leaf = tiled c.in-Ok.leaf in
    let passed = c.leaves.invariant in
    let L = passed.0 in
    let fewer = some_bytes leaf c.leaves.reader c.tile_leaf_at.new.reader found.text in
    let longer = ap length (texts_split L leaf []) in
    let parts = length-append (tile_leaves_text L) (tile_leaf_text leaf ++ []) in
    let last = length-append (tile_leaf_text leaf) [] in (
      L ++ leaf ∷ [],
      one_more_leaf L leaf c.args.tile.now c.leaves.reader c.tile_leaf_at.new.reader passed.1 found,
      omega (arith, length-append L (leaf ∷ []), passed.2),
      omega (arith, c.in_ok-start-in-Ok.ensures.next, passed.3, longer, parts, last),
      c.in_ok-start-in-Ok.ensures.written ∙ ap (λ (s : List ℕ). s ++ tile_entry_bytes c.leaves.start leaf) passed.4
          ∙ ap (λ (n : ℕ). tile_entries_bytes 0 L ++ tile_entry_bytes n leaf) passed.3 ∙ sym (entries_follow L leaf),
      omega (arith, fewer, passed.5),
    )
