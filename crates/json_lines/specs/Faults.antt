-- The reasons that end a run of a program over lines, and the line that reports such a reason.
use Rattle.std.specs.Prelude.{◌≡◌, ◌≢◌, ℕ, List, [], ◌∷◌, ◌++◌, codes}
use Rattle.std.specs.declared.io.ErrorKind.{ErrorKind}
use Rattle.std.specs.declared.io.ErrorKind.TheVariants.{OutOfMemory}
use Rattle.json_lines.specs.declared.fault.RunFault.{RunFault}
use Rattle.json_lines.specs.declared.fault.RunFault.TheVariants.{Memory, Read, Write}

-- the text after the program's name
abbrev pub run_fault_name : RunFault → List ℕ
run_fault_name Memory = codes "memory"
run_fault_name Read = codes "read"
run_fault_name Write = codes "write"

-- the line that a program writes about a fault
abbrev pub run_fault_line : List ℕ → RunFault → List ℕ
run_fault_line program f = program ++ codes ": " ++ run_fault_name f ++ 10 ∷ []

-- the fault for an error of this kind when the input is read: out of memory, or the input could not be read
pub record IsInputFault (k : ErrorKind) (f : RunFault) : Type 0 where
  pub memory : k ≡ OutOfMemory → f ≡ Memory
  pub other : k ≢ OutOfMemory → f ≡ Read
