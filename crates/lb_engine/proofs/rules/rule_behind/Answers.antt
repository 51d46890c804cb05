use Rattle.lb_engine.proofs.LeadsLemmas.{leads-ended, leads-then}
use Rattle.lb_engine.specs.Rules.{across}
use Rattle.lb_model_engine.specs.Items.{rule_sizes}
use Rattle.lb_model_nest.specs.Items.{rule_added}
use Rattle.lb_model_nest.specs.Paragraphs.{paragraph_ended}
use Rattle.lb_engine.proofs.rules.rule_behind.Goals as goal

pub returns-in-On : goal.returns-in-On
returns-in-On g c = record { goes = leads-then paragraph_ended (λ v. rule_sizes across rule_added v) c.add_across.result c.in-On.is c.in_ok-went.ensures.goes c.add_across.ensures.goes }

pub returns-in_default : goal.returns-in_default
returns-in_default g c = record { goes = leads-ended paragraph_ended (λ v. rule_sizes across rule_added v) c.in_ok-went.went c.in_default.not-On c.in_ok-went.ensures.goes }
