use Rattle.std.proofs.Common.{arith}
use Rattle.std.proofs.lemmas.Str.Pattern.{split_once_first}
use Rattle.ct_checkpoint.proofs.Lines.{line_cut}
use Rattle.libwagtenib.proofs.message.first_line.Goals as goal

pub returns : goal.returns
returns c = line_cut c.args.text.now c.split_once.result (split_once_first 10 c.args.text.now c.split_once.result c.split_once.ensures.cases (omega arith))
