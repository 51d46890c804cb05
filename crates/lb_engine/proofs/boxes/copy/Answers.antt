use Rattle.lb_engine.proofs.JoinLemmas.{read-failed}
use Rattle.lb_engine.proofs.LeadsLemmas.{leads-read}
use Rattle.lb_model_nest.specs.Boxes.{placed}
use Rattle.lb_model_nest.specs.Wholes.{executed}
use Rattle.lb_model_nest.specs.declared.turn.Went.TheVariants.{On}
use Rattle.lb_engine.proofs.boxes.copy.Goals as goal

pub place-requires : goal.place-requires
place-requires g c = record { holds = (c.in_ok-box_held.ensures.leads (λ x. executed On)).keeps }

pub returns : goal.returns
returns g c = record { goes = leads-read (placed c.args.context) c.in_ok-box_held.box_held c.place.result (c.in_ok-box_held.ensures.leads (placed c.args.context)) c.place.ensures.goes }

pub returns-in_err-box_held : goal.returns-in_err-box_held
returns-in_err-box_held g c = record { goes = read-failed c.from_residual.result c.from_residual.ensures.0 (c.in_err-box_held.ensures.leads (placed c.args.context)) }
