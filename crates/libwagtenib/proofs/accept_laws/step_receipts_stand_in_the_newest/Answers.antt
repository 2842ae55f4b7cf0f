use Rattle.libwagtenib.proofs.AcceptLaws.{step_receipts_stand_in_newest}
use Rattle.libwagtenib.proofs.accept_laws.step_receipts_stand_in_the_newest.Goals as goal

pub returns : goal.returns
returns c = step_receipts_stand_in_newest
