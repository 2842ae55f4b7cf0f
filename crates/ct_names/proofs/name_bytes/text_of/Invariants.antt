use Rattle.std.proofs.Common.{◌≡◌, take}
use Rattle.ct_names.specs.Names.{named_all}
use Rattle.ct_names.specs.NameBytes.{names_bytes}
use Rattle.ct_names.proofs.name_bytes.text_of.Given as goal

abbrev pub invariant-loop-name : goal.invariant-loop-name
invariant-loop-name l = l.text.items ≡ names_bytes (named_all (take l.name-index l.names))
