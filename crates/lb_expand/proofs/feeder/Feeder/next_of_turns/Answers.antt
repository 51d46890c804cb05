use Rattle.lb_model_expansion.specs.Expansion.{ran}
use Rattle.lb_expand.proofs.TurnLemmas.{token-performs}
use Rattle.lb_expand.proofs.feeder.Feeder.next_of_turns.Goals as goal

pub returns-clause-performs : goal.returns-clause-performs
returns-clause-performs g c = token-performs ran c.in_ok-went.went c.token_of.result c.token_of.ensures c.in_ok-went.ensures.performs
