use Rattle.libwagtenib.proofs.GuardLaws.{receipts_stand}
use Rattle.libwagtenib.proofs.guard_laws.receipts_stand_in_the_newest.Goals as goal

pub returns : goal.returns
returns c = receipts_stand
