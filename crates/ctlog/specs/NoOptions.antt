-- The answer to a command line that gives no numbers.
use Rattle.std.specs.Prelude.{◌≡◌, ◌≢◌}
use Rattle.clap.specs.declared.error.kind.ErrorKind.{ErrorKind}
use Rattle.clap.specs.declared.error.kind.ErrorKind.TheVariants as kind
use Rattle.ctlog.specs.CommandLine.{IsNotice}
use Rattle.ctlog.specs.declared.command.NoOptions.{NoOptions}
use Rattle.ctlog.specs.declared.command.NoOptions.TheVariants.{Fault, Notice, Refusal}
use Rattle.ct_lines.specs.declared.run_fault.Fault.TheVariants.{Memory}

-- this is the answer if clap's error is of this kind
abbrev pub IsNoOptions : NoOptions → ErrorKind → Type 0
IsNoOptions (Fault f) k = (k ≡ kind.OutOfMemory) × (f ≡ Memory)
IsNoOptions Notice k = IsNotice k
IsNoOptions Refusal k = (k ≢ kind.OutOfMemory) × (IsNotice k → ⊥)
