-- The part of some bytes that was written.
use Rattle.std.specs.Prelude.{◌≡◌, ℕ, List, ◌++◌, Option}
use Rattle.std.specs.Io.KnownBytes.{Appends}

-- a prefix of the bytes was written
abbrev pub SendsSome : Option (List ℕ) → Option (List ℕ) → List ℕ → Type 0
SendsSome old new bytes = (sent : List ℕ) × ((rest : List ℕ) × (bytes ≡ sent ++ rest)) × Appends old new sent
