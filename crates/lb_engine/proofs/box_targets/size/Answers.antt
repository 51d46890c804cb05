use Rattle.lb_base.specs.declared.glue.Target.{Target}
use Rattle.lb_base.specs.declared.glue.Target.TheVariants.{To}
use Rattle.lb_engine.proofs.RowLemmas.{read-ends, read-fails}
use Rattle.lb_engine.specs.Reads.{behind_reading}
use Rattle.lb_model_nest.specs.Wholes.{Executed, Whole}
use Rattle.std.proofs.Common.{FitsSigned, ap, refl, rules, sym, w32}
use Rattle.std.proofs.lemmas.Int.{to_z-of_z}
use Rattle.std.specs.Prelude.{ℤ}
use Rattle.lb_engine.specs.declared.reading.Reading.TheVariants as reading
use Rattle.lb_engine.proofs.box_targets.size.Goals as goal

-- what is done with it
abbrev to : (Target → Whole → Executed) → ℤ → Whole → Executed
to row n v = row (To n) v

pub returns-in-Of : goal.returns-in-Of
returns-in-Of g c = let fits : FitsSigned w32 c.in-Of.size = search rules in record { leads = λ row. read-ends (behind_reading (to row)) (behind_reading row) _ c.in-Of.is (ap (λ n. row (To n)) (sym (to_z-of_z w32 c.in-Of.size fits))) (c.in_ok-size.ensures.leads (to row)) }

pub returns-in-Stops : goal.returns-in-Stops
returns-in-Stops g c = record { leads = λ row. read-ends (behind_reading (to row)) (behind_reading row) (reading.Stops c.in-Stops.went) c.in-Stops.is refl (c.in_ok-size.ensures.leads (to row)) }

pub returns-in_err-size : goal.returns-in_err-size
returns-in_err-size g c = record { leads = λ row. read-fails c.from_residual.result c.from_residual.ensures.0 (c.in_err-size.ensures.leads (to row)) }
