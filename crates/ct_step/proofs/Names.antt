-- A tile's name is short, and the names of the objects at the right edge.
use Rattle.std.proofs.Common.{◌≡◌, ℕ, zero, suc, ◌+◌, ◌*◌, ◌/◌, ◌%◌, ◌<◌, ◌≤◌, ◌^◌, true, false, Bool, cond, List, [], ◌∷◌, ◌++◌, length, ap, arith, codes, nat_lt, add-one, refl, length-append, ◌∙◌, sym, Vec, Global}
use Rattle.std.proofs.Math.Nat.{pow-suc, div-div-eq-div-mul}
use Rattle.ct_data_tiles.specs.TileNames.{three_digits, decimal, group, leading_groups, index_text, content_text, width_text, name_text}
use Rattle.ct_data_tiles.specs.declared.tile.Content.{Content}
use Rattle.ct_data_tiles.specs.declared.tile.Content.TheVariants.{Hashes, Entries}
use Rattle.ct_data_tiles.specs.declared.tile.Tile.{Tile}
use Rattle.ct_step.specs.Needed.{level_names, partial_name}

either : (b : Bool) (x y : List ℕ) (n : ℕ) → length x ≤ n → length y ≤ n → length (cond b x y) ≤ n
either true x y n h k = h
either false x y n h k = k

short_decimal : (n : ℕ) → length (decimal n) ≤ 3
short_decimal n =
    either (nat_lt n 10) _ _ 3 (omega arith) (either (nat_lt n 100) _ (three_digits n) 3 (omega arith) (omega arith))

short_groups : (groups n : ℕ) → length (leading_groups groups n) ≤ 5 * groups
unfolding leading_groups
short_groups zero n = omega arith
short_groups (suc groups) n =
    either (nat_lt 0 n) _ [] (5 * suc groups)
    (omega (arith, length-append (leading_groups groups (n / 1000)) (group (n % 1000)), short_groups groups (n / 1000))) (omega arith)

short_content : (content : Content) → length (content_text content) ≤ 4
short_content (Hashes level) = omega (arith, short_decimal level)
short_content Entries = omega arith

short_width : (width : ℕ) → length (width_text width) ≤ 6
short_width width = either (nat_lt width 256) _ [] 6 (omega (arith, length-append (codes ".p/") (decimal width), short_decimal width)) (omega arith)

pub short_name : (tile : Tile) → length (name_text tile) < 2 ^ 16
short_name tile =
    let c = content_text tile.content in
    let i = index_text tile.index in
    let w = width_text tile.width in
    omega (
      arith,
      length-append (codes "tile/") (c ++ 47 ∷ (i ++ w)),
      length-append c (47 ∷ (i ++ w)),
      length-append i w,
      length-append (leading_groups 6 (tile.index / 1000)) (three_digits (tile.index % 1000)),
      short_groups 6 (tile.index / 1000),
      short_content tile.content,
      short_width tile.width,
    )

pub names-none : (n : ℕ) → level_names 0 n ≡ []
unfolding level_names
names-none n = refl

pub names-more : (level n : ℕ) → level_names (level + 1) n ≡ level_names level n ++ partial_name (Hashes level) (n / 256 ^ level)
unfolding level_names
names-more level n = rw add-one refl

abbrev pub text_in : Vec ℕ Global → List ℕ
text_in t = t.items

-- the number of hashes of the next level
pub rest-step : (n rest i : ℕ) → rest ≡ n / 256 ^ i → rest / 256 ≡ n / 256 ^ (i + 1)
rest-step n rest i e =
    ap (λ (x : ℕ). x / 256) e ∙ div-div-eq-div-mul n (256 ^ i) 256 ∙ ap (λ (x : ℕ). n / x) (sym (pow-suc 256 i) ∙ ap (λ (k : ℕ). 256 ^ k) (sym (add-one i)))
