-- How a staged batch (called a bundle here) is read. H is any hash function on byte lists.
use Rattle.std.specs.Prelude.{◌≡◌, ◌≢◌, ◌⊎◌, ℕ, List, map, Result, Ok, Err, Vec}
use Rattle.std.specs.Global.{Global}
use Rattle.ct_step.specs.declared.line.StateLine.{StateLine}
use Rattle.ct_verify.specs.Evidence.{Collides}
use Rattle.ct_step.specs.Bundle.{IsBundleOf}
use Rattle.ct_step.specs.declared.bundle.Object.{Object}
use Rattle.ct_step.specs.declared.rolling_out.ResumeFault.{ResumeFault}
use Rattle.ct_step.specs.declared.rolling_out.ResumeFault.TheVariants.{Bundle, Memory}

-- an object's name and its content
abbrev pub object_parts : Object → List ℕ × List ℕ
object_parts o = (o.name.now, o.content.now)

-- the bytes are not the staged batch of any objects
abbrev pub NoBundle : List ℕ → Type 0
NoBundle bytes = (objects : List (List ℕ × List ℕ)) → IsBundleOf objects bytes → ⊥

-- the bytes are the staged batch of some objects
abbrev pub IsSomeBundle : List ℕ → Type 0
IsSomeBundle bytes = (objects : List (List ℕ × List ℕ)) × IsBundleOf objects bytes

-- The reason why no objects are returned. `Bundle`: the digest of the bytes is not the line's, or they are not the staged batch of any
-- objects. `Memory`: the digest is the line's, and they are a staged batch.
abbrev pub StopsResume : (List ℕ → List ℕ) → StateLine → List ℕ → ResumeFault → Type 0
StopsResume H line bytes Bundle = (H bytes ≡ line.bundle → ⊥) ⊎ NoBundle bytes
StopsResume H line bytes Memory = (H bytes ≡ line.bundle) × IsSomeBundle bytes

-- the result of `resume` for a line and bytes
abbrev pub AnswersResume : (List ℕ → List ℕ) → StateLine → List ℕ → Result (Vec Object Global) ResumeFault → Type 0
AnswersResume H line bytes (Ok objects) = (H bytes ≡ line.bundle) × IsBundleOf (map object_parts objects.items) bytes
AnswersResume H line bytes (Err fault) = StopsResume H line bytes fault

-- the result has these objects, unless memory was refused
abbrev pub GivesObjects : List (List ℕ × List ℕ) → Result (Vec Object Global) ResumeFault → Type 0
GivesObjects objects (Ok found) = map object_parts found.items ≡ objects
GivesObjects objects (Err fault) = fault ≡ Memory

-- The result of `resume` for a staged batch of objects, and a line that has its digest, has these objects, unless memory was refused.
abbrev pub BundlesAreResumed : Type 0
BundlesAreResumed =
    (H : List ℕ → List ℕ) (line : StateLine) (objects : List (List ℕ × List ℕ)) (bytes : List ℕ) (r : Result (Vec Object Global) ResumeFault)
    → IsBundleOf objects bytes → line.bundle ≡ H bytes → AnswersResume H line bytes r → GivesObjects objects r

-- If two different byte strings both have the digest that one line has, these two strings collide.
abbrev pub BundlesTell : Type 0
BundlesTell =
    (H : List ℕ → List ℕ) (line : StateLine) (a b : List ℕ) → H a ≡ line.bundle → H b ≡ line.bundle → a ≢ b → Collides H a b
