-- The output of a run, by the request in its command line.
use Rattle.std.proofs.Common.{◌≡◌, ℕ, List, [], inr}
use Rattle.std.specs.Prelude.{Option}
use Rattle.std.specs.Io.KnownBytes.{Appends}
use Rattle.ct_workers.specs.Output.{not_begun}
use Rattle.ct_lines.specs.declared.run_fault.Fault.{Fault}
use Rattle.ct_lines.specs.declared.run_fault.Fault.TheVariants.{Memory}
use Rattle.ctlog.specs.CommandLine.{CommandLine, log_with, help, version, nothing}
use Rattle.ctlog.specs.Runs.{IsBrokenOff}

-- nothing was written because there was no memory, for any request
pub none_written : (f : Fault) (input old new : Option (List ℕ)) → (f ≡ Memory) × Appends old new [] → (a : CommandLine) → IsBrokenOff a f input old new
none_written f input old new none (log_with n places open_at close_at) = not_begun (inr (inr none.0)) none.1
none_written f input old new none help = (inr none.0, ([], none.1))
none_written f input old new none version = (inr none.0, ([], none.1))
none_written f input old new none nothing = none
