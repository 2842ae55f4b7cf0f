use Rattle.std.proofs.Common.{◌≡◌, ◌∙◌, ◌-◌, ℕ, length, ap, arith}
use Rattle.ct_data_tiles.specs.Lent.{tiled}
use Rattle.ct_data_tiles.specs.TileEntries.{submitted_place, timestamped_of}
use Rattle.ct_data_tiles.proofs.Places.{timestamped_short, submitted_within, text_length}
use Rattle.ct_data_tiles.proofs.entry_bytes.places_of.Goals as goal

pub place_of_submitted-requires : goal.place_of_submitted-requires
place_of_submitted-requires c = omega (arith, c.requires.input, timestamped_short (tiled c.args.leaf.now) c.requires.leaf)

pub overflow_add-result : goal.overflow_add-result
overflow_add-result c =
    let leaf = tiled c.args.leaf.now in
    let size : c.args.input - 2 ≡ length (timestamped_of leaf) = omega (arith, c.requires.input) in
    let place : c.place_of_submitted.result ≡ submitted_place leaf.entry (length (timestamped_of leaf)) =
    c.place_of_submitted.ensures ∙ ap (λ (n : ℕ). submitted_place leaf.entry n) size in
    omega (arith, place, submitted_within leaf c.requires.leaf, text_length leaf, c.requires.fits)

pub overflow_add-result-4 : goal.overflow_add-result-4
overflow_add-result-4 c =
    let leaf = tiled c.args.leaf.now in
    omega (arith, c.length_beside-beside.ensures, c.requires.input, text_length leaf, c.requires.fits)
