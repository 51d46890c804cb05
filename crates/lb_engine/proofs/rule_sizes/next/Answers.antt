use Rattle.lb_engine.proofs.RowLemmas.{read-ends, read-fails, read-then}
use Rattle.lb_engine.specs.Reads.{behind_reading}
use Rattle.lb_engine.specs.RuleSizes.{height_read}
use Rattle.lb_engine.specs.declared.rule_sizes.Given.{Given}
use Rattle.lb_model_engine.specs.Items.{size_if}
use Rattle.lb_model_nest.specs.Wholes.{Executed, Whole, executed}
use Rattle.lb_model_nest.specs.declared.turn.Went.TheVariants.{On}
use Rattle.std.proofs.Common.{refl}
use Rattle.std.specs.Prelude.{Bool}
use Rattle.lb_engine.specs.declared.reading.Reading.TheVariants as reading
use Rattle.lb_engine.specs.declared.rule_sizes.Given.TheVariants as given
use Rattle.lb_engine.specs.declared.rule_sizes.Side.TheVariants as side
use Rattle.lb_engine.proofs.rule_sizes.next.Goals as goal

-- what is done with it
abbrev to : (Given → Whole → Executed) → Bool → Whole → Executed
to row b v = size_if b (λ n x. row (given.Size side.Width n) x) (height_read row) v

pub width_if-requires : goal.width_if-requires
width_if-requires g c = record { holds = (c.in_ok-found.ensures.leads (λ x. executed On)).keeps }

pub returns-in-Of : goal.returns-in-Of
returns-in-Of g c = record { leads = λ row. read-then (behind_reading (to row)) c.width_if.result c.in-Of.is (c.in_ok-found.ensures.leads (to row)) (c.width_if.ensures.leads row) }

pub returns-in-Stops : goal.returns-in-Stops
returns-in-Stops g c = record { leads = λ row. read-ends (behind_reading (to row)) (behind_reading row) (reading.Stops c.in-Stops.went) c.in-Stops.is refl (c.in_ok-found.ensures.leads (to row)) }

pub returns-in_err-found : goal.returns-in_err-found
returns-in_err-found g c = record { leads = λ row. read-fails c.from_residual.result c.from_residual.ensures.0 (c.in_err-found.ensures.leads (to row)) }
