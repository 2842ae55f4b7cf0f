use Rattle.std.proofs.Common.{◌≡◌, drop}
use Rattle.ct_data_tiles.specs.NameReading.{number_until}
use Rattle.ct_data_tiles.proofs.name_reading.number_before.Given as goal

abbrev pub invariant-loop-i : goal.invariant-loop-i
invariant-loop-i l = number_until l.end 0 l.text ≡ number_until l.end l.n (drop l.i l.text)
