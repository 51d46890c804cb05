use Rattle.lb_model_expansion.proofs.FallsGiven.{ran-given}
use Rattle.lb_model_expansion.proofs.FallsSteps.{step-token}
use Rattle.lb_model_expansion.proofs.laws.a_token_takes_a_step.Goals as goal

pub returns-clause-taken : goal.returns-clause-taken
returns-clause-taken c = step-token

pub returns-clause-given : goal.returns-clause-given
returns-clause-given c = ran-given
