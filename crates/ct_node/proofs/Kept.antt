-- The full tile that is left for a deleted tile begins with all of it.
use Rattle.std.proofs.Common.{subst, ◌⊎◌, inl, inr, ⊎_elim, ◌≡◌, refl, ℕ, ◌+◌, ◌*◌, ◌<◌, ◌≤◌, sym, ◌∙◌, ap, arith, List, [], ◌∷◌, ◌++◌, length, take, drop}
use Rattle.std.proofs.lemmas.List.{take-append-drop, take-append-le, take-take, take_all}
use Rattle.std.proofs.lemmas.List.Concat.{flat_map-append}
use Rattle.ct_codec.specs.Parts.{joined}
use Rattle.ct_data_tiles.specs.TileLeaf.{Tiled}
use Rattle.ct_step.specs.declared.line.StateLine.{StateLine}
use Rattle.ct_data_tiles.specs.NameAnswers.{NamesDiffer}
use Rattle.ct_data_tiles.specs.TileNames.{IsTile, name_text}
use Rattle.ct_data_tiles.specs.declared.tile.Tile.{Tile}
use Rattle.ct_verify.specs.Hashed.{CollideAmong}
use Rattle.ct_node.specs.declared.state.State.{State}
use Rattle.ct_node.specs.Worlds.{Has, Made, Object, HeadsAreWhole}
use Rattle.ct_node.specs.Sweeps.{IsFullFor, SweptWorld, StandsInstead, SweepsKeep}
use Rattle.ct_node.specs.Kept.{whole_name, tile_and_width, AreNamed, BeginsWithAll, IsReadable, CanBeRead, NodesKeepTiles}
use Rattle.ct_step.specs.Lines.{LineAttempt, IsHashedBySteps}
use Rattle.ct_node.specs.Logs.{StandsOf, NodesWriteOneLog}
use Rattle.ct_node.specs.Names.{tile_parts, IsTileOfEntries}

-- ---- tiles of one name
abbrev widened : Tile → ℕ → Tile
widened t width = record t { width = width }

-- two tiles with the same full tile are equal except in their width
same_whole : NamesDiffer → (s t : Tile) → IsTile s → IsTile t → whole_name s ≡ whole_name t → s ≡ widened t s.width
same_whole differ s t is it e =
    let whole : (u : Tile) → IsTile u → IsTile (widened u 256) =
    λ u iu. record { content = iu.content; some = omega arith; most = omega arith; index = iu.index } in
    let same : widened s 256 ≡ widened t 256 = differ (widened s 256) (widened t 256) (whole s is) (whole t it) e in
    ap (λ (u : Tile). widened u s.width) same

-- ---- contents that begin with others
begins_with : (w v : ℕ) (xs : List (List ℕ)) → w ≤ v → take (length (joined (take w xs))) (joined (take v xs)) ≡ joined (take w xs)
begins_with w v xs le =
    let short = joined (take w xs) in
    let rest = drop w (take v xs) in
    let split : take v xs ≡ take w xs ++ rest = sym (take-append-drop w (take v xs)) ∙ ap (λ z. z ++ rest) (take-take w v xs le) in
    let whole : joined (take v xs) ≡ short ++ joined rest = ap joined split ∙ flat_map-append (λ (p : List ℕ). p) (take w xs) rest in
    ap (take (length short)) whole ∙ take-append-le (length short) short (joined rest) (omega arith) ∙ take_all (length short) short (omega arith)

module _ (H : List ℕ → List ℕ) (E : List Tiled) (differ : NamesDiffer) where
  -- the content is that of the tile with this name
  is_cut : (o : List ℕ × List ℕ) (t : Tile) → IsTile t → o.0 ≡ name_text t → IsTileOfEntries H E o
      → o.1 ≡ joined (take t.width (drop (256 * t.index) (tile_parts H E t.content)))
  is_cut o t is named cut =
      let same : cut.0 ≡ t = differ cut.0 t cut.1 is (sym cut.2 ∙ named) in
      cut.3 ∙ ap (λ (u : Tile). joined (take u.width (drop (256 * u.index) (tile_parts H E u.content)))) same

  -- the wider content begins with the other one
  wider_begins : (o p : List ℕ × List ℕ) (s t : Tile) → IsTile s → o.0 ≡ name_text s → IsTile t → p.0 ≡ name_text t → t ≡ widened s t.width
      → s.width ≤ t.width → IsTileOfEntries H E o → IsTileOfEntries H E p → BeginsWithAll p o
  wider_begins o p s t is named it called same le co cp =
      let xs = drop (256 * s.index) (tile_parts H E s.content) in
      let small : o.1 ≡ joined (take s.width xs) = is_cut o s is named co in
      let large : p.1 ≡ joined (take t.width xs) =
      is_cut p t it called cp ∙ ap (λ (u : Tile). joined (take t.width (drop (256 * u.index) (tile_parts H E u.content)))) same in
      ap (λ z. take (length z) p.1) small
      ∙ ap (take (length (joined (take s.width xs)))) large
      ∙ begins_with s.width t.width xs le
      ∙ sym small

  module _ (line : State → StateLine) (step : Made → LineAttempt) (b : State) (plan : Object → List ℕ × List ℕ) (of : Object → Tile) (w : SweptWorld)
      (stands : StandsOf H line step b plan E w.world) (named : AreNamed of plan w.world) (put : (o : Object) → Has o w.objects → Has o w.world.objects) where
    -- at least as wide, and of the same full tile
    abbrev IsAsWide : Object → Object → Type 0
    IsAsWide o p = (whole_name (of p) ≡ whole_name (of o)) × ((of o).width ≤ (of p).width) × (((of p).width ≡ (of o).width) ⊎ ((of p).width ≡ 256))

    as_wide : (o p : Object) → (tile_and_width of p ≡ tile_and_width of o) ⊎ IsFullFor (tile_and_width of o) (tile_and_width of p) → IsAsWide o p
    as_wide o p (inl e) =
        let width : (of p).width ≡ (of o).width = ap (λ (z : List ℕ × ℕ). z.1) e in
        (ap (λ (z : List ℕ × ℕ). z.0) e, omega (arith, width), inl width)
    as_wide o p (inr h) = (sym h.0, omega (arith, h.1), inr h.2)

    reads : (o : Object) → Has o w.world.objects → StandsInstead (tile_and_width of) w (tile_and_width of o) → IsReadable of plan w o
    reads o h s =
        let p = s.0 in
        let there = put p s.1 in
        let wide = as_wide o p s.2 in
        let same : of p ≡ widened (of o) (of p).width = same_whole differ (of p) (of o) (named p there).0 (named o h).0 wide.0 in (
          p,
          s.1,
          same,
          wide.1,
          wide.2,
          wider_begins (plan o) (plan p) (of o) (of p) (named o h).0 (named o h).1 (named p there).0 (named p there).1 same wide.1 (stands.tiles o h)
              (stands.tiles p there),
        )

pub nodes_keep_tiles : NodesWriteOneLog → SweepsKeep → HeadsAreWhole → NamesDiffer → NodesKeepTiles
nodes_keep_tiles agree keep whole differ H S line step plan of known count b hs w begins leads is steps named E all =
    let k = keep count (tile_and_width of) b hs w begins leads in
    let past = k.0.0 in
    ⊎_elim
    (λ (r : (known ≡ take (length known) E) × StandsOf H line step b plan E w.world).
    let one : (o : Object) → Has o w.world.objects → IsReadable of plan w o =
    λ o h. reads H E differ line step b plan of w r.1 named k.1.put o h (k.1.objects o h) in
    inl (
      r.0,
      r.1,
      record {
        objects = one;
        covered = λ l m head taken order i c. one (record { state = m; index = i }) (whole count b past w.world begins k.0.1 l m head taken order i c);
        heads = k.1.heads;
      },
    ))
    (λ (pair : CollideAmong H (IsHashedBySteps H S E)). inr pair)
    (agree H S line step plan known count b past w.world begins k.0.1 is steps E all)
