-- A batch without its repeats. An entry is a submission with its chain's fingerprints. Entries repeat one another if they have the same
-- identity.
use Rattle.std.specs.Prelude.{ℕ, List, [], ◌∷◌, ◌++◌, map, Bool, if◌then◌else◌}
use Rattle.std.specs.List.{list_any, position_or_len}
use Rattle.std.specs.Str.{bytes_eq}
use Rattle.ct_codec.specs.Submitted.{Submitted, identity_of}

-- an entry of a batch: a submission, and the fingerprints of its chain
abbrev pub BatchEntry : Type 0
BatchEntry = Submitted × List (List ℕ)

-- the entry's identity is one of the known ones
abbrev pub is_known : List (List ℕ) → BatchEntry → Bool
is_known known e = list_any (bytes_eq (identity_of e.0)) known

-- the known identities, followed by that of the entry if it is not one of them
abbrev pub with_identity : List (List ℕ) → BatchEntry → List (List ℕ)
with_identity known e = if is_known known e then known else (known ++ identity_of e.0 ∷ [])

-- those entries of a batch, in order, whose identity is not a known one or that of an earlier entry
abbrev pub first_of_each : List (List ℕ) → List BatchEntry → List BatchEntry
first_of_each known [] = []
first_of_each known (e ∷ batch) = (if is_known known e then [] else (e ∷ [])) ++ first_of_each (with_identity known e) batch

-- for each entry of a batch the index of its identity in the list of the known ones followed by those of the first entries
abbrev pub places_of_all : List (List ℕ) → List BatchEntry → List ℕ
places_of_all known [] = []
places_of_all known (e ∷ batch) = position_or_len (bytes_eq (identity_of e.0)) known ∷ places_of_all (with_identity known e) batch

-- the identities of entries
abbrev pub identities_of : List BatchEntry → List (List ℕ)
identities_of batch = map (λ e. identity_of e.0) batch
