use Rattle.std.proofs.Common.{arith}
use Rattle.std.proofs.lemmas.Str.Pattern.{split_once_first}
use Rattle.ct_checkpoint.proofs.Lines.{line_cut, none_cut}
use Rattle.ct_checkpoint.proofs.checkpoint.first_line.Goals as goal

pub returns-clause-cut : goal.returns-clause-cut
returns-clause-cut c = line_cut c.args.text.now c.split_once.result (split_once_first 10 c.args.text.now c.split_once.result c.split_once.ensures.cases (omega arith))

pub returns-clause-uncut : goal.returns-clause-uncut
returns-clause-uncut c = none_cut c.args.text.now c.split_once.result (split_once_first 10 c.args.text.now c.split_once.result c.split_once.ensures.cases (omega arith))
