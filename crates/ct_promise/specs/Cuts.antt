-- The cut, as the code represents it.
use Rattle.std.specs.Prelude.{ℕ, List}
use Rattle.ct_promise.specs.declared.cutting.Cut.{Cut}
use Rattle.ct_promise.specs.Tbs.{Parts, IsParted}

-- the parts whose bytes the cut has
abbrev pub parts_of : Cut → Parts
parts_of c = record { head = c.head.now; front = c.front.now; cut = c.cut.now; value = c.value.now; behind = c.behind.now }

-- some TBSCertificate has these parts
abbrev pub IsCutOf : Cut → Type 0
IsCutOf c = (identifier b : List ℕ) × IsParted identifier (parts_of c) b
