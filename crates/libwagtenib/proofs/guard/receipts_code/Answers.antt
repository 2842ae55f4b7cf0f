use Rattle.std.proofs.Common.{inl, refl}
use Rattle.libwagtenib.proofs.GuardLaws.{hashes_by_type}
use Rattle.libwagtenib.proofs.guard.receipts_code.Goals as goal

pub returns-in-Ok : goal.returns-in-Ok
returns-in-Ok c = inl (refl, c.in-Ok.ensures, hashes_by_type c.args.subtrees.now c.told-subtrees)
