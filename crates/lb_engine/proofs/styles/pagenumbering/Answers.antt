use Rattle.std.proofs.Common.{refl}
use Rattle.lb_model_engine.specs.Counting.{form_value, pagenumbering}
use Rattle.lb_base.specs.declared.fault.Kind.TheVariants.{BadCode}
use Rattle.lb_model_nest.specs.Wholes.{and_then, change, change_or}
use Rattle.lb_model_nest.specs.Pages.{page_counter}
use Rattle.lb_values.specs.declared.value.Value.TheVariants as value
use Rattle.std.proofs.Common.{pos}
use Rattle.lb_values.specs.declared.cell.Cell.TheVariants as cell
use Rattle.lb_values.specs.declared.reach.Reach.TheVariants.{Global}
use Rattle.lb_model_nest.specs.declared.turn.Went.TheVariants.{On}
use Rattle.lb_model_nest.specs.Wholes.{executed}
use Rattle.lb_engine.specs.Reads.{behind_reading}
use Rattle.lb_engine.proofs.JoinLemmas.{read-failed}
use Rattle.lb_engine.proofs.RowLemmas.{read-ends, read-then}
use Rattle.lb_engine.proofs.styles.pagenumbering.Goals as goal

pub number_pages-requires : goal.number_pages-requires
number_pages-requires g c = record { holds = (c.in_ok-name.ensures.leads (λ x v. executed On v)).keeps }

pub returns-in-Of : goal.returns-in-Of
unfolding pagenumbering
returns-in-Of g c = record { goes = read-then (behind_reading (λ name v. and_then (change_or BadCode Global cell.PageForm (form_value name) v) (change Global page_counter (value.Number (pos 1))))) c.number_pages.result c.in-Of.is (c.in_ok-name.ensures.leads (λ name v. and_then (change_or BadCode Global cell.PageForm (form_value name) v) (change Global page_counter (value.Number (pos 1))))) c.number_pages.ensures.goes }

pub returns-in-Stops : goal.returns-in-Stops
unfolding pagenumbering
returns-in-Stops g c = record { goes = read-ends (behind_reading (λ name v. and_then (change_or BadCode Global cell.PageForm (form_value name) v) (change Global page_counter (value.Number (pos 1))))) executed c.in-Stops.went c.in-Stops.is refl (c.in_ok-name.ensures.leads (λ name v. and_then (change_or BadCode Global cell.PageForm (form_value name) v) (change Global page_counter (value.Number (pos 1))))) }

pub returns-in_err-name : goal.returns-in_err-name
unfolding pagenumbering
returns-in_err-name g c = record { goes = read-failed c.from_residual.result c.from_residual.ensures.0 (c.in_err-name.ensures.leads (λ name v. and_then (change_or BadCode Global cell.PageForm (form_value name) v) (change Global page_counter (value.Number (pos 1))))) }
