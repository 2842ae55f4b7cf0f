-- The readers and the writers of published states, as contracts see them.
use Rattle.std.specs.Prelude.{◌≡◌, ℕ, List, Option, Some, fold}
use mathlib.Core.Option.{some}
use lib.ListN.{get_elem?}
use Rattle.ct_core.specs.Settlement.{Log}
use Rattle.ct_core.specs.Core.{Extends}
use Rattle.ct_house.specs.Publications.{Reach, Series, series_of}

-- A viewer or a bulletin as contracts see it: whose publications they are, and the newest state that was seen.
pub record Sight : Type 0 where
  pub series : Series
  pub seen : Log

-- the sight for an observed part of the book
abbrev pub sight_of : Reach → Sight
sight_of r = record { series = series_of r; seen = r.last.state }

-- A shelf as contracts see it: whose publications they are, the newest state, and the state that viewers find.
pub record ShelfView : Type 0 where
  pub series : Series
  pub seen : Log
  pub shown : Log

-- the shelf whose newest publication is that of `reached`, and that shows that of `shown`
abbrev pub shelf_of : Reach → Reach → ShelfView
shelf_of reached shown = record { series = series_of reached; seen = reached.last.state; shown = shown.last.state }

-- the sight after seeing the shelf's newest state
abbrev pub sight_at : ShelfView → Sight
sight_at s = record { series = s.series; seen = s.seen }

-- the same publications, and a state of which the older one is a prefix
pub record Moves (older newer : Sight) : Type 0 where
  pub series : newer.series ≡ older.series
  pub seen : Extends older.seen newer.seen

-- if a reader knows the series shown, it is the series of the version shown now
abbrev pub Fits : Reach → Option Reach → Type 0
Fits x v = (r : Reach) → v ≡ Some r → series_of r ≡ series_of x

-- the rule of the two copies: `Fits` holds for the reader at each seat, and for the writer
abbrev pub AllFit : Reach → List (Option Reach) → Type 0
AllFit x views = (seat : ℕ) (v : Option Reach) → get_elem? views seat ≡ some v → Fits x v

-- the version shown is now known, and if a series was known before, it is the same
abbrev pub Sees : Option Reach → Reach → Reach → Option Reach → Type 0
Sees v x y w = (w ≡ Some y) × Fits y v

-- the version shown after these were taken in
abbrev pub last_of : Reach → List Reach → Reach
last_of x xs = fold (λ _ y. y) x xs

-- the series of the publications is known
abbrev pub Knows : Series → Option Reach → Type 0
Knows s v = (r : Reach) × (v ≡ Some r) × (series_of r ≡ s)
