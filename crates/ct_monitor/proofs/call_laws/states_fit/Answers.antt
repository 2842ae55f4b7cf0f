use Rattle.ct_monitor.proofs.Fits.{states_fit}
use Rattle.ct_monitor.proofs.call_laws.states_fit.Goals as goal

pub returns : goal.returns
returns c = states_fit
