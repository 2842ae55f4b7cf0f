-- The names of a certificate's fields, in words.
use Rattle.std.specs.Prelude.{ℕ, List, codes}
use Rattle.ct_promise.specs.declared.field.Place.{Place}
use Rattle.ct_promise.specs.declared.field.Place.TheVariants as at

-- the name of a certificate's field
abbrev pub field_name : Place → List ℕ
field_name at.Certificate = codes "certificate"
field_name at.Tbs = codes "tbs"
field_name at.OuterAlgorithm = codes "outer-algorithm"
field_name at.Signature = codes "signature"
field_name at.Version = codes "version"
field_name at.Serial = codes "serial"
field_name at.Algorithm = codes "algorithm"
field_name at.Issuer = codes "issuer"
field_name at.Validity = codes "validity"
field_name at.Subject = codes "subject"
field_name at.Key = codes "key"
field_name at.IssuerId = codes "issuer-id"
field_name at.SubjectId = codes "subject-id"
field_name at.Extensions = codes "extensions"
field_name at.AltNames = codes "alt-names"
