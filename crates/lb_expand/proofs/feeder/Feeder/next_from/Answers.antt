use Rattle.std.proofs.Common.{rules}
use Rattle.lb_expand.specs.Turns.{met_behind}
use Rattle.lb_expand.proofs.TurnLemmas.{token-performs}
use Rattle.lb_expand.proofs.feeder.Feeder.next_from.Goals as goal

pub returns-clause-performs : goal.returns-clause-performs
returns-clause-performs g c = λ turns a. token-performs (met_behind c.args.tok turns) c.in_ok-went.went c.token_of.result c.token_of.ensures (c.in_ok-went.ensures.performs turns a)

pub returns-in_err-went-clause-performs : goal.returns-in_err-went-clause-performs
returns-in_err-went-clause-performs g c = λ turns a. let p = c.in_err-went.ensures.performs turns a in search rules
