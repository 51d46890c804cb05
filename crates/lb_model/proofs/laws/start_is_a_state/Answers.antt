use Rattle.lb_model.proofs.Starts.{start-fits}
use Rattle.lb_model.proofs.laws.start_is_a_state.Goals as goal

pub returns : goal.returns
returns c = start-fits
