-- The objects of a step as one byte string, its staged batch (called a bundle here). An object is its name and its content, both of which
-- are bytes.
use Rattle.std.specs.Prelude.{◌≡◌, ◌<◌, ◌^◌, ◌++◌, ℕ, List, length, All}
use Rattle.std.specs.List.{flat_map}
use Rattle.ct_codec.specs.Bytes.{vec}

-- an object whose lengths can be written: its name has fewer than 2^16 bytes (`name`), and its content fewer than 2^32 (`content`)
pub record IsObject (o : List ℕ × List ℕ) : Type 0 where
  pub name : length o.0 < 2 ^ 16
  pub content : length o.1 < 2 ^ 32

-- the bytes of an object: its name as a vector whose length has 2 bytes, and its content as one whose length has 4 (RFC 5246, section 4.3)
abbrev pub bundled_text : List ℕ × List ℕ → List ℕ
bundled_text o = vec 2 o.0 ++ vec 4 o.1

-- a staged batch: the objects, one after the other
abbrev pub bundle_text : List (List ℕ × List ℕ) → List ℕ
bundle_text objects = flat_map bundled_text objects

-- the bytes are the staged batch of these objects
pub record IsBundleOf (objects : List (List ℕ × List ℕ)) (bytes : List ℕ) : Type 0 where
  pub fit : All IsObject objects
  pub text : bytes ≡ bundle_text objects
