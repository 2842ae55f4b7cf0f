use Rattle.ct_step.proofs.EdgesTell.{believed_edges_tell, edges_are_believed}
use Rattle.ct_step.proofs.growth_laws.edges.Goals as goal

pub returns-clause-tell : goal.returns-clause-tell
returns-clause-tell c = believed_edges_tell

pub returns-clause-believed : goal.returns-clause-believed
returns-clause-believed c = edges_are_believed
