use Rattle.lb_model_nest.specs.declared.turn.Went.TheVariants.{On}
use Rattle.std.proofs.Common.{refl}
use Rattle.lb_model_engine.specs.Counting.{pagestyle, style_value}
use Rattle.lb_base.specs.declared.fault.Kind.TheVariants.{BadCode}
use Rattle.lb_model_nest.specs.Wholes.{change_or}
use Rattle.lb_values.specs.declared.reach.Reach.TheVariants.{Global}
use Rattle.lb_model_nest.specs.Wholes.{executed}
use Rattle.lb_engine.specs.Reads.{behind_reading}
use Rattle.lb_engine.proofs.JoinLemmas.{read-failed}
use Rattle.lb_engine.proofs.RowLemmas.{read-ends, read-then}
use Rattle.lb_engine.proofs.styles.pagestyle.Goals as goal

pub returns-in-Of : goal.returns-in-Of
unfolding pagestyle
returns-in-Of g c = record { goes = read-then (behind_reading (λ name v. change_or BadCode Global c.args.cell.now (style_value name) v)) c.set_page_style.result c.in-Of.is (c.in_ok-name.ensures.leads (λ name v. change_or BadCode Global c.args.cell.now (style_value name) v)) c.set_page_style.ensures.goes }

pub returns-in-Stops : goal.returns-in-Stops
unfolding pagestyle
returns-in-Stops g c = record { goes = read-ends (behind_reading (λ name v. change_or BadCode Global c.args.cell.now (style_value name) v)) executed c.in-Stops.went c.in-Stops.is refl (c.in_ok-name.ensures.leads (λ name v. change_or BadCode Global c.args.cell.now (style_value name) v)) }

pub returns-in_err-name : goal.returns-in_err-name
unfolding pagestyle
returns-in_err-name g c = record { goes = read-failed c.from_residual.result c.from_residual.ensures.0 (c.in_err-name.ensures.leads (λ name v. change_or BadCode Global c.args.cell.now (style_value name) v)) }

pub set_page_style-requires-clause-holds : goal.set_page_style-requires-clause-holds
set_page_style-requires-clause-holds g c = (c.in_ok-name.ensures.leads (λ x v. executed On v)).keeps
