use Rattle.std.proofs.Common.{rules}
use Rattle.lb_base.specs.declared.node.KernOrigin.TheVariants.{Explicit}
use Rattle.lb_base.specs.declared.node.Node as node
use Rattle.lb_model_nest.specs.Pages.{added}
use Rattle.lb_engine.proofs.NestLemmas.{nest_leads}
use Rattle.lb_engine.proofs.RowLemmas.{act-is}
use Rattle.lb_engine.proofs.material.add_kern.Goals as goal

pub returns : goal.returns
returns g c = record { goes = act-is (λ z. added (node.Kern z Explicit)) c.add_kern.result (search rules) (nest_leads c.add_kern.result c.add_kern.ensures.goes) }
