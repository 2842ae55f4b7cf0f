-- The leaves of a tile, one after the other.
use Rattle.std.proofs.Common.{◌≡◌, ◌∙◌, ◌+◌, ◌-◌, ◌*◌, ◌<◌, ◌≤◌, ◌^◌, ℕ, List, [], ◌∷◌, length, take, drop, All, Option, Some, None, Result, Ok, Err, sym, ap, subst, arith}
use Rattle.std.specs.Prelude.{IfOk, MatchOption, MatchResult}
use Rattle.std.proofs.lemmas.Option.{none-some}
use Rattle.std.specs.List.{AllByRecursion}
use Rattle.std.proofs.lemmas.List.{drop-map, length-drop, take_all}
use Rattle.std.proofs.lemmas.List.Elements.{All-nil, All-cons, All-drop, All-take}
use Rattle.ct_data_tiles.specs.TileLeaf.{IsTileLeaf}
use Rattle.ct_data_tiles.specs.Lent.{tiled}
use Rattle.ct_data_tiles.specs.DataTile.{tiled_all}
use Rattle.ct_data_tiles.specs.DataTile.{DataTileFaulty}
use Rattle.ct_data_tiles.specs.declared.leaf.TileLeaf.{TileLeaf}
use Rattle.ct_data_tiles.specs.declared.fault.DataTileFault.{DataTileFault}
use Rattle.ct_data_tiles.specs.declared.fault.DataTileFault.TheVariants.{AtLeaf, Memory}
use Rattle.ct_data_tiles.specs.NameAnswers.{NotRead}
use Rattle.ct_data_tiles.specs.declared.tile.NameFault.{NameFault}
use Rattle.ct_data_tiles.specs.declared.tile.NameFault.TheVariants.{NoSuchTile, Memory as NameMemory}
use Rattle.ct_data_tiles.specs.declared.tile.Tile.{Tile}
use Rattle.ct_data_tiles.specs.declared.answer.Damage.{Damage}
use Rattle.ct_data_tiles.specs.TileAnswers.{IsDamageOf, IsDamaged}
use Rattle.ct_data_tiles.specs.Entries.{IsDataTileName, HasEntry, IsFirstWrong}

-- the result for the leaves from an index on is the result for all leaves
abbrev pub LeadsTo : ℕ → ℕ → List TileLeaf → Type 0
LeadsTo first i leaves = (o : Option ℕ) → IsFirstWrong (first + i) (tiled_all (drop i leaves)) o → IsFirstWrong first (tiled_all leaves) o

whole_rest : (place : ℕ) (leaves : List TileLeaf) → take (length leaves - place) (drop place leaves) ≡ drop place leaves
whole_rest place leaves =
    let size : length (drop place leaves) ≡ length leaves - place = length-drop place leaves in
    take_all (length leaves - place) (drop place leaves) (omega (arith, size))

-- the leaves from an index in the tile on are those from the index `next` in the log on
pub behind : (place next first : ℕ) (part leaves : List TileLeaf) → part ≡ leaves → first + place ≡ next
    → tiled_all (take (length part - place) (drop place part)) ≡ drop (next - first) (tiled_all leaves)
behind place next first part leaves e f =
    let size : next - first ≡ place = omega (arith, f) in
    ap (λ (xs : List TileLeaf). tiled_all (take (length xs - place) (drop place xs))) e ∙ ap tiled_all (whole_rest place leaves)
    ∙ sym (drop-map tiled place leaves) ∙ ap (λ (n : ℕ). drop n (tiled_all leaves)) (sym size)

-- there are so few of them that no index is above 2^64
pub few_behind : (place next index width : ℕ) (part : List TileLeaf) → 256 * index + place ≡ next → next < 2 ^ 64 → length part ≡ width → width ≤ 256
    → place < width
    → next + length (take (length part - place) (drop place part)) ≤ 2 ^ 64
few_behind place next index width part e small count most inside =
    let size : length (take (length part - place) (drop place part)) ≡ length part - place =
    ap length (whole_rest place part) ∙ length-drop place part in
    omega (arith, size, e, small, count, most, inside)

-- the damage that corresponds to a fault if the tile has the requested entry
pub damaged_by : (next : ℕ) (name b : List ℕ) (tile : Tile) (f : DataTileFault) (damage : Damage) → IsDamageOf f damage → DataTileFaulty f b
    → IsDataTileName name tile → HasEntry tile next
    → IsDamaged next name b damage
damaged_by next name b tile (AtLeaf place f) damage is faulty named has = subst (IsDamaged next name b) (sym is) (tile, named, has, faulty)
damaged_by next name b tile Memory damage is faulty named has = absurd is

-- the meaning of a name that is not read
pub unnamed : {F : Type 0} (r : Result (Option Tile) F) (fault : NameFault) (name : List ℕ)
    → MatchResult r (λ o. (o ≡ None) × (fault ≡ NoSuchTile)) (λ _. fault ≡ NameMemory) → NotRead name fault
    → IfOk r (λ o. MatchOption o ((tile : Tile) → IsDataTileName name tile → ⊥) (λ tile. IsDataTileName name tile))
unnamed (Ok None) fault name from none = λ tile named. subst (NotRead name) from.1 none tile named.named named.text
unnamed (Ok (Some tile)) fault name from none = absurd (none-some tile (sym from.0))
unnamed (Err e) fault name from none = tt
