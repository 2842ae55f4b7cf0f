use Rattle.std.proofs.lemmas.Result.{err_from_is_err_and}
use Rattle.ct_monitor.proofs.keeping.Follower.observe.Goals as goal

pub returns-in_err-longer-clause-refused : goal.returns-in_err-longer-clause-refused
returns-in_err-longer-clause-refused g c =
    let p = err_from_is_err_and c.from_residual.result c.from_residual.ensures.1 in
    rw (p.1, p.2) c.in_err-longer.ensures.refused

pub returns-clause-follows : goal.returns-clause-follows
returns-clause-follows g c D f = (
  rw c.go_on.ensures.peaks (c.in_ok-longer.ensures.stands D f),
  rw c.go_on.ensures.last_head (c.in_ok-longer.ensures.root D f),
)

pub returns-clause-root : goal.returns-clause-root
returns-clause-root g c D f = c.in_ok-longer.ensures.root D f

pub returns-clause-root_of_any : goal.returns-clause-root_of_any
returns-clause-root_of_any g c D few d = c.in_ok-longer.ensures.root_of_any D few d

pub returns-clause-in_order : goal.returns-clause-in_order
returns-clause-in_order g c D f = (c.in_ok-longer.ensures.in_order D f).0
