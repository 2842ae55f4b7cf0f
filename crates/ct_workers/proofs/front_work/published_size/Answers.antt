use Rattle.ct_workers.proofs.FrontLemmas.{head_refused, if_err_is}
use Rattle.ct_workers.proofs.front_work.published_size.Goals as goal

pub returns-in_err-head-clause-refused : goal.returns-in_err-head-clause-refused
returns-in_err-head-clause-refused c = if_err_is _ _ c.in_err-head.field-0.0 c.from_residual.ensures.1
    (head_refused c.ask.new.front.sight.seen c.in_err-head.field-0.0 c.in_err-head.ensures.shows)
