-- The reasons why no checked path or proof is returned. H is any hash function on byte lists.
use Rattle.std.specs.Prelude.{◌≡◌, ◌<◌, ◌≤◌, ℕ, true, List, length, take}
use Rattle.ct_tree.specs.Tree.{path, proof}
use Rattle.ct_tree.specs.Lengths.{path_length, subproof_length}
use Rattle.ct_verify.specs.Verdict.{RefusesInclusion, RefusesConsistency}
use Rattle.ct_verify.specs.declared.evidence.EvidenceFault.{EvidenceFault}
use Rattle.ct_verify.specs.declared.evidence.EvidenceFault.TheVariants.{ProofRefused, Memory}
use Rattle.ct_tiles.specs.Given.{GivesTilesOf}

-- if the index is below the size, p is as long as PATH(m, D[n]), and is that of each list whose tiles are given
abbrev pub IsPathOfGiven : (List ℕ → List ℕ) → (ℕ → ℕ → List ℕ) → ℕ → ℕ → List (List ℕ) → Type 0
IsPathOfGiven H given m n p =
    m < n → (length p ≡ path_length m n) × ((D : List (List ℕ)) → GivesTilesOf H given D → n ≤ length D → p ≡ path H m (take n D))

-- if the sizes are in range, p is as long as PROOF(m, D[n]), so not empty, and is that of each list whose tiles are given
abbrev pub IsProofOfGiven : (List ℕ → List ℕ) → (ℕ → ℕ → List ℕ) → ℕ → ℕ → List (List ℕ) → Type 0
IsProofOfGiven H given m n p =
    0 < m → m < n
    → (0 < length p) × (length p ≡ subproof_length m n true) × ((D : List (List ℕ)) → GivesTilesOf H given D → n ≤ length D → p ≡ proof H m (take n D))

-- The reason why no path is returned. It is the verifier's refusal of the path that was computed from the tiles, or the index is below the
-- size and memory could not be allocated.
abbrev pub RefusesPath : (List ℕ → List ℕ) → (ℕ → ℕ → List ℕ) → List ℕ → ℕ → ℕ → List ℕ → EvidenceFault → Type 0
RefusesPath H given leaf m n root (ProofRefused fault) = (p : List (List ℕ)) × IsPathOfGiven H given m n p × RefusesInclusion H leaf m n p root fault
RefusesPath H given leaf m n root Memory = m < n

-- The reason why no proof is returned. It is the verifier's refusal of the proof that was computed from the tiles, or the sizes are in
-- range and memory could not be allocated.
abbrev pub RefusesProof : (List ℕ → List ℕ) → (ℕ → ℕ → List ℕ) → ℕ → ℕ → List ℕ → List ℕ → EvidenceFault → Type 0
RefusesProof H given m n x y (ProofRefused fault) = (p : List (List ℕ)) × IsProofOfGiven H given m n p × RefusesConsistency H m n x y p fault
RefusesProof H given m n x y Memory = (0 < m) × (m < n)
