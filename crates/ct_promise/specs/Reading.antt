-- The cut read from left to right, with the first fault that reading finds.
use Rattle.std.specs.Prelude.{◌++◌, ◌-◌, ℕ, zero, suc, List, [], ◌∷◌, length, take, Result, Ok, Err, ◌==◌, bytes_eq, if◌then◌else◌}
use Rattle.ct_promise.specs.DerReading.{◌>>=◌, expected_at, only_at, optional_at}
use Rattle.ct_promise.specs.DerWriting.{element_text}
use Rattle.ct_promise.specs.declared.der_fault.DerFault.{DerFault}
use Rattle.ct_promise.specs.declared.field.Place.{Place}
use Rattle.ct_promise.specs.declared.field.Place.TheVariants as at
use Rattle.ct_promise.specs.declared.fault.CutFault.{CutFault}
use Rattle.ct_promise.specs.declared.fault.CutFault.TheVariants.{At, NoExtension, SecondExtension}
use Rattle.ct_promise.specs.Tbs.{Field, before_key, tbs_fields, Parts}

-- the result of reading an element; a fault is returned with the field
abbrev pub put_at : {X : Type 0} → Place → Result X DerFault → Result X CutFault
put_at p (Ok x) = Ok x
put_at p (Err f) = Err (At (record { place = p; fault = f }))

-- the bytes before the rest of some bytes
abbrev pub before : List ℕ → List ℕ → List ℕ
before whole rest = take (length whole - length rest) whole

-- the bytes after a field
unfoldable pub field_after : Field → List ℕ → Result (List ℕ) CutFault
field_after f b =
    if f.optional then (put_at f.place (optional_at f.tag b) >>= λ e. Ok e.1) else (put_at f.place (expected_at f.tag b) >>= λ e. Ok e.1)

-- the bytes after these fields
abbrev pub after_fields : List Field → List ℕ → Result (List ℕ) CutFault
after_fields [] b = Ok b
after_fields (f ∷ fs) b = field_after f b >>= λ r. after_fields fs r

-- the identifier and the value of an extension, and the bytes after it (RFC 5280, 4.2)
unfoldable pub extension_with_at : List ℕ → Result (List ℕ × List ℕ × List ℕ) CutFault
extension_with_at b = do
  extension ← put_at at.Extensions (expected_at 48 b)
  name ← put_at at.Extensions (expected_at 6 extension.0)
  critical ← put_at at.Extensions (optional_at 1 name.1)
  value ← put_at at.Extensions (only_at 4 critical.1)
  Ok (name.0, value, extension.1)

-- the bytes after all extensions, of which there are none, if no extension has this identifier; there are at most n extensions, and each
-- has some bytes
unfoldable pub others_at : List ℕ → ℕ → List ℕ → Result (List ℕ) CutFault
others_at identifier zero b = Ok []
others_at identifier (suc n) [] = Ok []
others_at identifier (suc n) (x ∷ b) =
    extension_with_at (x ∷ b) >>= λ e. if bytes_eq e.0 identifier then Err SecondExtension else others_at identifier n e.2

-- the bytes from the one extension with this identifier on, its value, and the bytes after it; there are at most n extensions
unfoldable pub sole_at : List ℕ → ℕ → List ℕ → Result (List ℕ × List ℕ × List ℕ) CutFault
sole_at identifier zero b = Err NoExtension
sole_at identifier (suc n) [] = Err NoExtension
sole_at identifier (suc n) (x ∷ b) = extension_with_at (x ∷ b) >>= λ e.
    if bytes_eq e.0 identifier then (others_at identifier (length e.2) e.2 >>= λ none. Ok (x ∷ b, e.1, e.2)) else sole_at identifier n e.2

-- the extensions in their field, or none if the field is missing
unfoldable pub list_at : List ℕ → Result (List ℕ) CutFault
list_at [] = Ok []
list_at (x ∷ b) = put_at at.Extensions (only_at 163 (x ∷ b)) >>= λ list. put_at at.Extensions (only_at 48 list)

-- the parts of a TBSCertificate in which one extension has this identifier
unfoldable pub parts_cut_at : List ℕ → List ℕ → Result Parts CutFault
parts_cut_at identifier b = do
  fields ← put_at at.Tbs (only_at 48 b)
  rest ← after_fields tbs_fields fields
  list ← list_at rest
  sole ← sole_at identifier (length list) list
  Ok (record { head = before fields rest; front = before list sole.0; cut = before sole.0 sole.2; value = sole.1; behind = sole.2 })

-- the field of these extensions, or nothing if there are none
abbrev pub extensions_text : List ℕ → List ℕ
extensions_text list = if length list == 0 then [] else element_text 163 (element_text 48 list)

-- the TBSCertificate with these parts except the one that is cut out
unfoldable pub without : Parts → List ℕ
without p = element_text 48 (p.head ++ extensions_text (p.front ++ p.behind))

-- the TBSCertificate of a certificate
unfoldable pub whole_tbs_at : List ℕ → Result (List ℕ) CutFault
whole_tbs_at b = do
  fields ← put_at at.Certificate (only_at 48 b)
  tbs ← put_at at.Tbs (expected_at 48 fields)
  algorithm ← put_at at.OuterAlgorithm (expected_at 48 tbs.1)
  signature ← put_at at.Signature (only_at 3 algorithm.1)
  Ok (before fields tbs.1)

-- the key of a TBSCertificate
unfoldable pub key_at : List ℕ → Result (List ℕ) CutFault
key_at b = do
  fields ← put_at at.Tbs (only_at 48 b)
  rest ← after_fields before_key fields
  key ← put_at at.Key (expected_at 48 rest)
  Ok (before rest key.1)
