use Rattle.ct_checkpoint.proofs.Lines.{number_read}
use Rattle.libwagtenib.proofs.message.number_of.Goals as goal

pub returns : goal.returns
returns c = number_read c.args.text.now c.parse.result c.ok.result c.parse.ensures.value.0 c.ok.ensures.value
