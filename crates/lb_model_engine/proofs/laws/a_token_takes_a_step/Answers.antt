use Rattle.lb_model_engine.proofs.FallsTurns.{turn-given}
use Rattle.lb_model_engine.proofs.laws.a_token_takes_a_step.Goals as goal

pub returns : goal.returns
returns c = turn-given
