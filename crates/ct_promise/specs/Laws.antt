-- Laws of the cut.
use Rattle.std.specs.Prelude.{◌≡◌, ℕ, List, length, Ok}
use Rattle.ct_promise.specs.DerLaws.{IsBytes}
use Rattle.ct_promise.specs.Tbs.{Parts, IsParted, IsWithout, IsCutOut, IsTbsOf, IsKeyOf}
use Rattle.ct_promise.specs.Reading.{parts_cut_at, without}

-- The parts of each TBSCertificate with one extension of an identifier are read.
abbrev pub CutsAreRead : Type 0
CutsAreRead = (identifier : List ℕ) (p : Parts) (b : List ℕ) → IsParted identifier p b → parts_cut_at identifier b ≡ Ok p

-- Anything that is read is present.
abbrev pub ReadCutsAreThere : Type 0
ReadCutsAreThere = (identifier : List ℕ) (p : Parts) (b : List ℕ) → IsBytes b → parts_cut_at identifier b ≡ Ok p → IsParted identifier p b

-- A TBSCertificate without the extension is written.
abbrev pub WrittenCutsAreThere : Type 0
WrittenCutsAreThere = (identifier : List ℕ) (p : Parts) (b : List ℕ) → IsParted identifier p b → IsWithout p (without p)

-- .. and it is the only one
abbrev pub CutsAreWritten : Type 0
CutsAreWritten = (p : Parts) (c : List ℕ) → IsWithout p c → c ≡ without p

-- No bytes have two cuts.
abbrev pub OneCut : Type 0
OneCut = (identifier b c d : List ℕ) → IsCutOut identifier b c → IsCutOut identifier b d → c ≡ d

-- Putting the removed extension back in its position gives the bytes again. If two TBSCertificates are the same without an extension, the
-- extension has the same text in both, and as many bytes of other extensions precede it, then they are the same. The identifiers may
-- differ.
abbrev pub PuttingBack : Type 0
PuttingBack = (i j : List ℕ) (p q : Parts) (b d c : List ℕ) → IsParted i p b → IsParted j q d → IsWithout p c → IsWithout q c
    → p.cut ≡ q.cut → length p.front ≡ length q.front → b ≡ d

-- No certificate has two TBSCertificates.
abbrev pub OneTbs : Type 0
OneTbs = (s t b : List ℕ) → IsTbsOf s b → IsTbsOf t b → s ≡ t

-- No TBSCertificate has two keys.
abbrev pub OneKey : Type 0
OneKey = (j k b : List ℕ) → IsKeyOf j b → IsKeyOf k b → j ≡ k
