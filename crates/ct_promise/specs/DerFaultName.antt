-- The names of faults, in words.
use Rattle.std.specs.Prelude.{ℕ, List, codes}
use Rattle.ct_promise.specs.declared.der_fault.DerFault.{DerFault}
use Rattle.ct_promise.specs.declared.der_fault.DerFault.TheVariants as der

-- the name of a fault
abbrev pub der_fault_name : DerFault → List ℕ
der_fault_name der.Truncated = codes "truncated"
der_fault_name der.LongTag = codes "long-tag"
der_fault_name der.IndefiniteLength = codes "indefinite-length"
der_fault_name der.LongLength = codes "long-length"
der_fault_name der.PaddedLength = codes "padded-length"
der_fault_name der.OtherTag = codes "other-tag"
der_fault_name der.Trailing = codes "trailing"
