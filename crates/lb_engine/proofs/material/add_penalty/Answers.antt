use Rattle.std.proofs.Common.{rules}
use Rattle.lb_base.specs.declared.node.Node as node
use Rattle.lb_model_nest.specs.Pages.{added}
use Rattle.lb_engine.proofs.NestLemmas.{nest_leads}
use Rattle.lb_engine.proofs.RowLemmas.{act-is}
use Rattle.lb_engine.proofs.material.add_penalty.Goals as goal

pub returns : goal.returns
returns g c = record { goes = act-is (λ z. added (node.Penalty z)) c.add_penalty.result (search rules) (nest_leads c.add_penalty.result c.add_penalty.ensures.goes) }
