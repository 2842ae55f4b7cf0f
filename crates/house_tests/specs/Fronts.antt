-- A front, before and after its calls.
use Rattle.std.specs.Prelude.{◌≡◌}
use Rattle.ct_gate.specs.Ends.{SameIntake}
use Rattle.ct_house.specs.House.{FrontView}

-- the same front: its end of the gate, and the publications that it reads
abbrev pub SameFront : FrontView → FrontView → Type 0
SameFront old new = SameIntake old.intake new.intake × (new.sight.series ≡ old.sight.series)
