use Rattle.lb_model_engine.proofs.FallsTurns.{text_set-falls, turn-falls, turns-falls}
use Rattle.lb_model_engine.proofs.laws.steps_never_rise.Goals as goal

pub returns-clause-turn : goal.returns-clause-turn
returns-clause-turn c = turn-falls

pub returns-clause-turns : goal.returns-clause-turns
returns-clause-turns c = turns-falls

pub returns-clause-text : goal.returns-clause-text
returns-clause-text c = text_set-falls
