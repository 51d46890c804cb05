use Rattle.lb_base.specs.declared.node.RuleSize.{RuleSize}
use Rattle.lb_engine.proofs.RowLemmas.{read-ends, read-fails, read-then}
use Rattle.lb_engine.specs.Reads.{behind_reading}
use Rattle.lb_model_nest.specs.Pages.{added}
use Rattle.lb_model_nest.specs.Wholes.{Executed, Whole, executed}
use Rattle.lb_model_nest.specs.declared.turn.Went.TheVariants.{On}
use Rattle.std.proofs.Common.{refl}
use Rattle.lb_base.specs.declared.node.Node as node
use Rattle.lb_engine.proofs.rules.add_upright.Goals as goal

-- what is done with it
abbrev to : RuleSize → Whole → Executed
to size v = added (node.Rule size) v

pub add_node-requires : goal.add_node-requires
add_node-requires g c = record { holds = (c.in_ok-size.ensures.leads (λ x. executed On)).keeps }

pub returns-in-Of : goal.returns-in-Of
returns-in-Of g c = record { goes = read-then (behind_reading to) c.add_node.result c.in-Of.is (c.in_ok-size.ensures.leads to) c.add_node.ensures.goes }

pub returns-in-Stops : goal.returns-in-Stops
returns-in-Stops g c = record { goes = read-ends (behind_reading to) executed c.in-Stops.went c.in-Stops.is refl (c.in_ok-size.ensures.leads to) }

pub returns-in_err-size : goal.returns-in_err-size
returns-in_err-size g c = record { goes = read-fails c.from_residual.result c.from_residual.ensures.0 (c.in_err-size.ensures.leads to) }
