use Rattle.lb_model_expansion.proofs.FallsSteps.{body_asked-falls, quantity_asked-falls, ran-falls, scan_asked-falls, step-falls, word_asked-falls}
use Rattle.lb_model_expansion.proofs.laws.steps_never_rise.Goals as goal

pub returns-clause-step : goal.returns-clause-step
returns-clause-step c = step-falls

pub returns-clause-ran : goal.returns-clause-ran
returns-clause-ran c = ran-falls

pub returns-clause-scan : goal.returns-clause-scan
returns-clause-scan c = scan_asked-falls

pub returns-clause-quantity : goal.returns-clause-quantity
returns-clause-quantity c = quantity_asked-falls

pub returns-clause-word : goal.returns-clause-word
returns-clause-word c = word_asked-falls

pub returns-clause-body : goal.returns-clause-body
returns-clause-body c = body_asked-falls
