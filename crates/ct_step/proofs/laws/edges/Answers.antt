use Rattle.ct_step.proofs.Made.{named_edges_tell, edges_are_named}
use Rattle.ct_step.proofs.laws.edges.Goals as goal

pub returns-clause-tell : goal.returns-clause-tell
returns-clause-tell c = named_edges_tell

pub returns-clause-named : goal.returns-clause-named
returns-clause-named c = edges_are_named
