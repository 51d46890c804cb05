use Rattle.lb_engine.proofs.LeadsLemmas.{leads-ended, leads-then}
use Rattle.lb_model_engine.specs.Environments.{end_checked}
use Rattle.lb_model_nest.specs.Words.{word_ended}
use Rattle.lb_engine.proofs.environment_ends.end_bounded.Goals as goal

pub returns-in-On : goal.returns-in-On
returns-in-On g c = record { goes = leads-then (word_ended) (end_checked c.args.name.now) c.check_end.result c.in-On.is c.in_ok-went.ensures.goes c.check_end.ensures.goes }

pub returns-in_default : goal.returns-in_default
returns-in_default g c = record { goes = leads-ended (word_ended) (end_checked c.args.name.now) c.in_ok-went.went c.in_default.not-On c.in_ok-went.ensures.goes }
