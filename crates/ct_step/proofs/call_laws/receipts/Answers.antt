use Rattle.ct_step.proofs.Splits.{receipts_name_entries}
use Rattle.ct_step.proofs.call_laws.receipts.Goals as goal

pub returns : goal.returns
returns c = receipts_name_entries
