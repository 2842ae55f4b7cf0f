use Rattle.libwagtenib.proofs.NodeLaws.{commands_are_read, calls_are_told, calls_are_histories}
use Rattle.libwagtenib.proofs.node_laws.commands_by_calls_are_histories.Goals as goal

pub returns-clause-read : goal.returns-clause-read
returns-clause-read c = commands_are_read

pub returns-clause-told : goal.returns-clause-told
returns-clause-told c = calls_are_told

pub returns-clause-histories : goal.returns-clause-histories
returns-clause-histories c = calls_are_histories
