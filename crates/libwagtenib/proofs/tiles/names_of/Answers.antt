use Rattle.std.proofs.Common.{◌≡◌, ◌∙◌, ◌++◌, ◌∷◌, [], ℕ, List, ap, subst}
use Rattle.std.proofs.lemmas.List.Elements.{All-tail}
use Rattle.std.specs.Prelude.{All}
use Rattle.ct_data_tiles.specs.TileNames.{name_text}
use Rattle.ct_data_tiles.specs.declared.tile.Tile.{Tile}
use Rattle.ct_tiles.specs.declared.needed.NeededTile.{NeededTile}
use Rattle.libwagtenib.specs.Tiles.{named_tile, names_text, IsNamedTile}
use Rattle.libwagtenib.proofs.Made.{names_more, names_all}
use Rattle.libwagtenib.proofs.tiles.names_of.Goals as goal

pub loop-tile-preserved : goal.loop-tile-preserved
loop-tile-preserved c =
    let l = c.loop-tile in
    let split = c.in-Some.ensures.cases.0 in
    let longer : c.extend_from_slice.new.self.items ≡ l.text.items ++ c.in_ok-name.name.items =
    c.in_ok-extend_from_slice.ensures.items ∙ ap (λ (s : List ℕ). l.text.items ++ s) c.deref.ensures.value in
    let written : c.push.new.self.items ≡ (l.text.items ++ c.in_ok-name.name.items) ++ (10 ∷ []) =
    c.in_ok-push.ensures.items ∙ ap (λ (s : List ℕ). s ++ (10 ∷ [])) longer in
    let named : c.in_ok-name.name.items ≡ name_text (named_tile c.in-Some.tile.now) =
    c.in_ok-name.ensures ∙ ap (λ (t : Tile). name_text t) c.named_tile.ensures in
    let rest : All IsNamedTile c.in-Some.more.now =
    All-tail IsNamedTile c.in-Some.tile.now c.in-Some.more.now (subst (λ (t : List NeededTile). All IsNamedTile t) split l.invariant.1) in (
      names_more (names_text c.args.tiles.now) l.text.items c.in_ok-name.name.items c.push.new.self.items c.in-Some.tile.now l.tiles.now c.in-Some.more.now
          l.invariant.0 split named written,
      rest,
    )

pub returns : goal.returns
returns c =
    names_all (names_text c.args.tiles.now) c.loop-tile.text.items c.loop-tile.tiles.now c.loop-tile.invariant.0 c.in_default.ensures.cases
