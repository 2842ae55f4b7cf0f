use Rattle.std.proofs.Common.{◌≡◌, ◌++◌, length, All}
use Rattle.libwagtenib.specs.Tiles.{IsNamedTile, names_text}
use Rattle.libwagtenib.proofs.tiles.names_of.Given as goal

abbrev pub invariant-loop-tile : goal.invariant-loop-tile
invariant-loop-tile l = (names_text l.fn.tiles ≡ l.text.items ++ names_text l.tiles) × All IsNamedTile l.tiles

abbrev pub decreases-loop-tile : goal.decreases-loop-tile
decreases-loop-tile l = length l.tiles
