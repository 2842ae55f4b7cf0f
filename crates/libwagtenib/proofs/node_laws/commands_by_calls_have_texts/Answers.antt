use Rattle.libwagtenib.proofs.NodeLaws.{commands_have_texts, commands_have_objects}
use Rattle.libwagtenib.proofs.node_laws.commands_by_calls_have_texts.Goals as goal

pub returns-clause-texts : goal.returns-clause-texts
returns-clause-texts c = commands_have_texts

pub returns-clause-objects : goal.returns-clause-objects
returns-clause-objects c = commands_have_objects
