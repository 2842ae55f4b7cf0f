-- The tiles of the levels, one level after another.
use Rattle.std.proofs.Common.{◌≡◌, ℕ, suc, ◌+◌, ◌-◌, ◌/◌, ◌<◌, ◌++◌, [], refl, arith}
use Rattle.ct_tiles.specs.Needed.{level_tiles, tiles_from}

pub tiles_step : (level first own last size : ℕ) → level < 8
    → tiles_from (8 - level) level first own last size
    ≡ level_tiles level first own last size ++ tiles_from (8 - (level + 1)) (level + 1) (first / 256) (own / 256) (last / 256) (size / 256)
unfolding tiles_from
tiles_step level first own last size h =
    let e : 8 - level ≡ suc (8 - (level + 1)) = omega arith in
    rw e refl

pub tiles_end : (level first own last size : ℕ) → level ≡ 8 → tiles_from (8 - level) level first own last size ≡ []
unfolding tiles_from
tiles_end level first own last size e =
    let z : 8 - level ≡ 0 = omega arith in
    rw z refl
