use Rattle.libwagtenib.proofs.GuardLaws.{taken_agree}
use Rattle.libwagtenib.proofs.guard_laws.signed_by_calls_agree.Goals as goal

pub returns : goal.returns
returns c = taken_agree
