-- Why it is not shown that a promise was kept.
use Rattle.ct_promise.specs.declared.fault.PromiseFault.{PromiseFault}
use Rattle.ct_promise.specs.declared.fault.PromiseFault.TheVariants as fault
use Rattle.ct_promise.specs.declared.fault.Unkept.{Unkept}
use Rattle.ct_promise.specs.declared.fault.Unkept.TheVariants as kept

-- if there is no leaf
abbrev pub unkept_of : PromiseFault → Unkept
unkept_of (fault.Unfit u) = kept.NoLeaf u
unkept_of fault.Memory = kept.Memory
