use Rattle.std.proofs.Common.{refl, arith}
use Rattle.ct_data_tiles.proofs.NamesRead.{told, numbers, small_numbers, small_first, the_one}
use Rattle.ct_data_tiles.proofs.name_reading.read_tile.Goals as goal

pub returns-in_default : goal.returns-in_default
returns-in_default c = λ tile is e.
    let t = told c.args.text.now tile is e in
    omega (arith, small_first c.args.text.now tile is t, c.in_default.ensures)

pub returns-in_default-number_before : goal.returns-in_default-number_before
returns-in_default-number_before c = λ tile is e.
    let t = told c.args.text.now tile is e in
    let s = small_numbers c.args.text.now tile c.in-Some.behind_level.now _ is t c.in-Some.ensures.1 refl in
    omega (arith, s.0, c.in_default-number_before.ensures)

pub returns-in_default-number_before-2 : goal.returns-in_default-number_before-2
returns-in_default-number_before-2 c = λ tile is e.
    let t = told c.args.text.now tile is e in
    let s = small_numbers c.args.text.now tile c.in-Some.behind_level.now c.in-Some-number_before.behind_index.now is t c.in-Some.ensures.1 c.in-Some-number_before.ensures.1 in
    omega (arith, s.1, c.in_default-number_before-2.ensures)

pub returns : goal.returns
returns c =
    the_one c.args.text.now c.tile_of.result (λ tile is e.
    c.tile_of.ensures tile is (numbers c.args.text.now tile _ _ _ _ c.in-Some.behind_level.now c.in-Some-number_before.behind_index.now
    (told c.args.text.now tile is e) refl c.in-Some.ensures.0 c.in-Some.ensures.1 c.in-Some-number_before.ensures.0 c.in-Some-number_before.ensures.1 c.in-Some-number_before-2.ensures.0))
