use Rattle.ct_lines.proofs.Audits.{head_found, head_none}
use Rattle.ct_lines.proofs.auditing.head_of_size.Goals as goal

pub returns-clause-some : goal.returns-clause-some
returns-clause-some c = head_found c.args.log.now c.args.size c.head_of_size.result c.head_of_size.ensures.lawful c.head_of_size.ensures.some
    c.head_of_size.ensures.size

pub returns-clause-none : goal.returns-clause-none
returns-clause-none c = head_none c.args.log.now c.args.size c.head_of_size.result c.head_of_size.ensures.size
