-- The faults of a run.
use Rattle.std.specs.Prelude.{◌≡◌, ◌≢◌, ◌⊎◌, ℕ, List, codes}
use Rattle.ct_codec.specs.declared.refusal.Refusal.{Refusal}
use Rattle.ct_codec.specs.declared.refusal.Refusal.TheVariants as refusal
use Rattle.std.specs.declared.io.ErrorKind.{ErrorKind}
use Rattle.std.specs.declared.io.ErrorKind.TheVariants.{OutOfMemory}
use Rattle.ct_lines.specs.declared.run_fault.Fault.{Fault}
use Rattle.ct_lines.specs.declared.run_fault.Fault.TheVariants.{Memory, ClockBack, Threads, Read, Write}

-- the name of a fault
abbrev pub fault_name : Fault → List ℕ
fault_name Memory = codes "memory"
fault_name ClockBack = codes "clock-back"
fault_name Threads = codes "threads"
fault_name Read = codes "read"
fault_name Write = codes "write"

-- the fault for a refusal of the closing
pub record IsRefusalFault (r : Refusal) (f : Fault) : Type 0 where
  pub clock_back : r ≡ refusal.ClockBack → f ≡ ClockBack
  pub memory : r ≡ refusal.Memory → f ≡ Memory

-- the fault for an error of this kind while arguments or the input are read
pub record IsReadingFault (k : ErrorKind) (f : Fault) : Type 0 where
  pub memory : k ≡ OutOfMemory → f ≡ Memory
  pub other : k ≢ OutOfMemory → f ≡ Read
  pub either : (f ≡ Read) ⊎ (f ≡ Memory)
