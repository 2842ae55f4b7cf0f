-- The output of a run of the program.
use Rattle.std.specs.Prelude.{◌≡◌, ◌⊎◌, ℕ, List, [], Option}
use Rattle.std.specs.Io.KnownBytes.{Appends}
use Rattle.ct_workers.specs.Output.{IsBegun, IsServed}
use Rattle.ct_lines.specs.declared.run_fault.Fault.{Fault}
use Rattle.ct_lines.specs.declared.run_fault.Fault.TheVariants.{Memory, Write}
use Rattle.ctlog.specs.CommandLine.{CommandLine, log_with, help, version, nothing}

-- the output of a run with status 0, by the request in its command line: all replies; or the text of help or of the version
abbrev pub IsDone : CommandLine → Option (List ℕ) → Option (List ℕ) → Option (List ℕ) → Type 0
IsDone (log_with n places open_at close_at) input old new = IsServed n places open_at close_at input old new
IsDone help input old new = (text : List ℕ) × Appends old new text
IsDone version input old new = (text : List ℕ) × Appends old new text
IsDone nothing input old new = ⊥

-- the output of a run that this fault broke off: a prefix of all replies; a prefix of the requested text; or nothing
abbrev pub IsBrokenOff : CommandLine → Fault → Option (List ℕ) → Option (List ℕ) → Option (List ℕ) → Type 0
IsBrokenOff (log_with n places open_at close_at) f input old new = IsBegun n places open_at close_at f input old new
IsBrokenOff help f input old new = ((f ≡ Write) ⊎ (f ≡ Memory)) × ((text : List ℕ) × Appends old new text)
IsBrokenOff version f input old new = ((f ≡ Write) ⊎ (f ≡ Memory)) × ((text : List ℕ) × Appends old new text)
IsBrokenOff nothing f input old new = (f ≡ Memory) × Appends old new []
