use Rattle.std.proofs.Common.{ap}
use Rattle.clap.specs.Simple.{app_of_fields}
use Rattle.ctlog.proofs.command.with_version.Goals as goal

pub returns : goal.returns
returns c = ap app_of_fields c.version.ensures
