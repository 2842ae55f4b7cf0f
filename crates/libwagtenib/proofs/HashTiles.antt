-- The tiles that are read have names.
use Rattle.std.proofs.Common.{◌≡◌, ℕ, zero, suc, ◌+◌, ◌-◌, ◌*◌, ◌/◌, ◌%◌, ◌^◌, ◌<◌, ◌≤◌, Bool, true, false, nat_lt}
use Rattle.std.proofs.Common.{nat_eq, if◌then◌else◌, List, [], ◌∷◌, ◌++◌, All, refl, sym, subst, arith}
use Rattle.std.proofs.lemmas.Bool.{ltb-true, eqb-true}
use Rattle.std.proofs.lemmas.List.Elements.{All-nil, All-cons, All-append}
use Rattle.std.specs.Prelude.{⊤, Result, Ok, Err, Vec, IfOk}
use Rattle.std.specs.Global.{Global}
use Rattle.ct_tiles.specs.Needed.{tile_at, level_tiles, tiles_from, root_tiles, path_tiles, proof_tiles}
use Rattle.ct_tiles.specs.declared.needed.NeededTile.{NeededTile}
use Rattle.libwagtenib.specs.Tiles.{IsNamedTile}

width_of : (b : Bool) (n : ℕ) → nat_lt n 256 ≡ b → 1 ≤ n → (1 ≤ (if b then n else 256)) × ((if b then n else 256) ≤ 256)
width_of true n e some = (some, omega (arith, ltb-true n 256 e))
width_of false n e some = (omega arith, omega arith)

at_named : (level index size : ℕ) → level ≤ 63 → index < 2 ^ 64 → 256 * index < size → IsNamedTile (tile_at level index size)
at_named level index size low few some =
    let w = width_of (nat_lt (size - 256 * index) 256) (size - 256 * index) refl (omega (arith, some)) in
    record { content = low; some = w.0; most = w.1; index = few }

one_named : (tile : NeededTile) → IsNamedTile tile → All IsNamedTile (tile ∷ [])
one_named tile h = All-cons IsNamedTile tile [] h (All-nil IsNamedTile)

if_named : (b : Bool) (xs ys : List NeededTile) → (b ≡ true → All IsNamedTile xs) → All IsNamedTile ys → All IsNamedTile (if b then xs else ys)
if_named true xs ys hx hy = hx refl
if_named false xs ys hx hy = hy

level_named : (level first own last size : ℕ) → level ≤ 63 → last ≤ size → size < 2 ^ 64 → (level ≡ 0 → last < size)
    → All IsNamedTile (level_tiles level first own last size)
level_named level first own last size low within few base =
    let none = All-nil IsNamedTile in
    let own_tile : NeededTile = tile_at level (own / 256) size in
    let last_tile : NeededTile = tile_at level (last / 256) size in
    let own_named : nat_lt (own / 256) (last / 256) ≡ true → IsNamedTile own_tile =
    λ e. at_named level (own / 256) size low (omega (arith, ltb-true (own / 256) (last / 256) e, within, few))
    (omega (arith, ltb-true (own / 256) (last / 256) e, within)) in
    let last_named : nat_lt 0 (last % 256) ≡ true → IsNamedTile last_tile =
    λ e. at_named level (last / 256) size low (omega (arith, within, few)) (omega (arith, ltb-true 0 (last % 256) e, within)) in
    let base_named : nat_eq level 0 ≡ true → IsNamedTile last_tile =
    λ e. at_named level (last / 256) size low (omega (arith, within, few)) (omega (arith, base (eqb-true level 0 e))) in
    All-append IsNamedTile
    (if nat_lt (own / 256) (last / 256) then (if nat_eq (first / 256) (own / 256) then own_tile ∷ [] else []) else [])
    (if nat_lt 0 (last % 256) then last_tile ∷ [] else (if nat_eq level 0 then last_tile ∷ [] else []))
    (if_named (nat_lt (own / 256) (last / 256)) (if nat_eq (first / 256) (own / 256) then own_tile ∷ [] else []) []
    (λ e. if_named (nat_eq (first / 256) (own / 256)) (own_tile ∷ []) [] (λ same. one_named own_tile (own_named e)) none) none)
    (if_named (nat_lt 0 (last % 256)) (last_tile ∷ []) (if nat_eq level 0 then last_tile ∷ [] else []) (λ e. one_named last_tile (last_named e))
    (if_named (nat_eq level 0) (last_tile ∷ []) [] (λ e. one_named last_tile (base_named e)) none))

tiles_named : (count level first own last size : ℕ) → level + count ≤ 64 → last ≤ size → size < 2 ^ 64 → (level ≡ 0 → last < size)
    → All IsNamedTile (tiles_from count level first own last size)
unfolding tiles_from
tiles_named zero level first own last size most within few base = All-nil IsNamedTile
tiles_named (suc count) level first own last size most within few base =
    All-append IsNamedTile (level_tiles level first own last size) (tiles_from count (level + 1) (first / 256) (own / 256) (last / 256) (size / 256))
    (level_named level first own last size (omega (arith, most)) within few base)
    (tiles_named count (level + 1) (first / 256) (own / 256) (last / 256) (size / 256) (omega (arith, most)) (omega (arith, within)) (omega (arith, few))
    (λ e. absurd (omega (arith, e))))

pub root_named : (n : ℕ) → 0 < n → n < 2 ^ 64 → All IsNamedTile (root_tiles n)
root_named n some few =
    tiles_named 8 0 (n - 1) (n - 1) (n - 1) n (omega arith) (omega (arith, some)) few (λ e. omega (arith, some))

pub path_named : (m n : ℕ) → m < n → n < 2 ^ 64 → All IsNamedTile (path_tiles m n)
path_named m n below few = tiles_named 8 0 m m (n - 1) n (omega arith) (omega (arith, below)) few (λ e. omega (arith, below))

pub proof_named : (m n : ℕ) → m < n → n < 2 ^ 64 → All IsNamedTile (proof_tiles m n)
proof_named m n below few = tiles_named 8 0 m (m - 1) (n - 1) n (omega arith) (omega (arith, below)) few (λ e. omega (arith, below))

-- the same of tiles that are answered
pub all_named : {F : Type 0} (r : Result (Vec NeededTile Global) F) (tiles : List NeededTile) → All IsNamedTile tiles → IfOk r (λ t. t.items ≡ tiles)
    → IfOk r (λ t. All IsNamedTile t.items)
all_named (Ok t) tiles all same = subst (λ (l : List NeededTile). All IsNamedTile l) (sym same) all
all_named (Err f) tiles all same = tt
