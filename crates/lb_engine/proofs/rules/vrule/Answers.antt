use Rattle.lb_engine.proofs.LeadsLemmas.{leads-ended, leads-then}
use Rattle.lb_engine.specs.Rules.{upright}
use Rattle.lb_model_engine.specs.Items.{rule_sizes, vrule}
use Rattle.lb_model_nest.specs.Pages.{added}
use Rattle.lb_model_nest.specs.Paragraphs.{begun_in_vertical}
use Rattle.std.proofs.Common.{true}
use Rattle.lb_base.specs.declared.node.Node as node
use Rattle.lb_engine.proofs.rules.vrule.Goals as goal

pub returns-in-On : goal.returns-in-On
unfolding vrule
returns-in-On g c = record { goes = leads-then (begun_in_vertical true) (λ v. rule_sizes upright (λ size u. added (node.Rule size) u) v) c.add_upright.result c.in-On.is c.in_ok-went.ensures.goes c.add_upright.ensures.goes }

pub returns-in_default : goal.returns-in_default
unfolding vrule
returns-in_default g c = record { goes = leads-ended (begun_in_vertical true) (λ v. rule_sizes upright (λ size u. added (node.Rule size) u) v) c.in_ok-went.went c.in_default.not-On c.in_ok-went.ensures.goes }
