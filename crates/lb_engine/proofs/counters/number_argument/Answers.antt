use Rattle.std.proofs.Common.{refl}
use Rattle.lb_model_engine.specs.Reads.{number_in}
use Rattle.lb_model_nest.specs.declared.turn.Went.TheVariants.{On}
use Rattle.lb_model_nest.specs.Wholes.{executed}
use Rattle.lb_engine.specs.Reads.{behind_reading}
use Rattle.lb_engine.specs.declared.reading.Reading.TheVariants as reading
use Rattle.lb_engine.proofs.JoinLemmas.{read-failed}
use Rattle.lb_engine.proofs.RowLemmas.{read-ends, read-then}
use Rattle.lb_engine.proofs.counters.number_argument.Goals as goal

pub number_in-requires : goal.number_in-requires
number_in-requires g c = record { holds = (c.in_ok-toks.ensures.leads (λ x v. executed On v)).keeps }

pub returns-in-Of : goal.returns-in-Of
returns-in-Of g c = record { leads = λ row. read-then (behind_reading (λ toks u. number_in toks row u)) c.number_in.result c.in-Of.is (c.in_ok-toks.ensures.leads (λ toks u. number_in toks row u)) (c.number_in.ensures.leads row) }

pub returns-in-Stops : goal.returns-in-Stops
returns-in-Stops g c = record { leads = λ row. read-ends (behind_reading (λ toks u. number_in toks row u)) (behind_reading row) (reading.Stops c.in-Stops.went) c.in-Stops.is refl (c.in_ok-toks.ensures.leads (λ toks u. number_in toks row u)) }

pub returns-in_err-toks : goal.returns-in_err-toks
returns-in_err-toks g c = record { leads = λ row. read-failed c.from_residual.result c.from_residual.ensures.0 (c.in_err-toks.ensures.leads (λ toks u. number_in toks row u)) }
