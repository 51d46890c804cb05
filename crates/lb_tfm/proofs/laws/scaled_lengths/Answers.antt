use Rattle.lb_tfm.proofs.Floors.{is-scaled}
use Rattle.lb_tfm.proofs.laws.scaled_lengths.Goals as goal

pub returns-clause-floor : goal.returns-clause-floor
returns-clause-floor c = is-scaled
