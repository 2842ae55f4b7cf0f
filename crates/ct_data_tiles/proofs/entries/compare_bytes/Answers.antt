use Rattle.std.proofs.Common.{◌≡◌, ◌∙◌, ◌-◌, ◌<◌, List, length, ap, subst, arith}
use Rattle.std.proofs.lemmas.List.{length-map}
use Rattle.ct_data_tiles.specs.TileLeaf.{Tiled}
use Rattle.ct_data_tiles.specs.Lent.{tiled}
use Rattle.ct_data_tiles.specs.DataTile.{tiled_all}
use Rattle.ct_data_tiles.specs.Entries.{first_entry, IsFirstWrong}
use Rattle.ct_data_tiles.proofs.LeafByLeaf.{behind, few_behind, damaged_by}
use Rattle.ct_data_tiles.proofs.entries.compare_bytes.Goals as goal

pub returns-in-Err : goal.returns-in-Err
returns-in-Err c = λ name named.
    damaged_by c.args.next name c.args.bytes.now c.args.tile c.in-Err.fault c.in_ok-damage-in-Err.damage c.in_ok-damage-in-Err.ensures c.in-Err.ensures.fault named
    c.requires.has

pub first_wrong-wrong-requires : goal.first_wrong-wrong-requires
first_wrong-wrong-requires c =
    let part = c.deref.result.now in
    let count : length part ≡ c.args.tile.width = ap length c.deref.ensures.value ∙ omega (arith, c.len-count.ensures, c.if-count-tile.false) in
    let inside : c.args.place < c.args.tile.width = omega (arith, c.requires.has.1, c.requires.place) in
    few_behind c.args.place c.args.next c.args.tile.index c.args.tile.width part c.requires.place c.ranges.next.fits count c.requires.width inside

pub returns : goal.returns
returns c = λ name named.
    let leaves = c.in-Ok.leaves.items in
    let part = c.deref.result.now in
    let same = behind c.args.place c.args.next (first_entry c.args.tile) part leaves c.deref.ensures.value c.requires.place in
    let count : length leaves ≡ c.args.tile.width = omega (arith, c.len-count.ensures, c.if-count-tile.false) in (
      c.args.tile,
      tiled_all leaves,
      named,
      c.requires.has,
      c.in-Ok.ensures.found,
      length-map leaves tiled ∙ count,
      subst (λ (L : List Tiled). IsFirstWrong c.args.next L c.first_wrong-wrong.result) same c.first_wrong-wrong.ensures,
    )
