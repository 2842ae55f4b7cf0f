-- The name of the program, and the lines of faults.
use Rattle.std.specs.Prelude.{ℕ, List, [], ◌∷◌, ◌++◌, codes}
use Rattle.ct_lines.specs.Faults.{fault_name}
use Rattle.ct_lines.specs.declared.run_fault.Fault.{Fault}
use Rattle.ctlog.specs.declared.names.Program.{Program}
use Rattle.ctlog.specs.declared.names.Program.TheVariants.{Ctlog}

-- the name of a program
abbrev pub name_of : Program → List ℕ
name_of Ctlog = codes "ctlog"

-- the line that the program with this name writes for a fault
abbrev pub fault_line : List ℕ → Fault → List ℕ
fault_line program f = program ++ codes ": " ++ fault_name f ++ 10 ∷ []
