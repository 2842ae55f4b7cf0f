use Rattle.ct_checkpoint.proofs.Lines.{number_is, number_read}
use Rattle.ct_checkpoint.proofs.checkpoint.number_of.Goals as goal

pub returns-clause-written : goal.returns-clause-written
returns-clause-written c = number_read c.args.text.now c.parse.result c.ok.result c.parse.ensures.value.0 c.ok.ensures.value

pub returns-clause-number : goal.returns-clause-number
returns-clause-number c = number_is c.args.text.now c.parse.result c.ok.result c.parse.ensures.value.0 c.ok.ensures.value
