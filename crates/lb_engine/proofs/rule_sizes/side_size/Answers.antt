use Rattle.lb_engine.proofs.RowLemmas.{read-ends, read-fails}
use Rattle.lb_engine.specs.Reads.{behind_reading}
use Rattle.lb_engine.specs.declared.rule_sizes.Given.{Given}
use Rattle.lb_model_nest.specs.Wholes.{Executed, Whole}
use Rattle.std.proofs.Common.{FitsSigned, ap, refl, rules, sym, w32}
use Rattle.std.proofs.lemmas.Int.{to_z-of_z}
use Rattle.std.specs.Prelude.{ℤ}
use Rattle.lb_engine.specs.declared.reading.Reading.TheVariants as reading
use Rattle.lb_engine.specs.declared.rule_sizes.Given.TheVariants as given
use Rattle.lb_engine.specs.declared.rule_sizes.Side.{Side}
use Rattle.lb_engine.proofs.rule_sizes.side_size.Goals as goal

-- what is done with it
abbrev to : Side → (Given → Whole → Executed) → ℤ → Whole → Executed
to side row n v = row (given.Size side n) v

pub returns-in-Of : goal.returns-in-Of
returns-in-Of g c = let fits : FitsSigned w32 c.in-Of.length = search rules in record { leads = λ row. read-ends (behind_reading (to c.args.side row)) (behind_reading row) _ c.in-Of.is (ap (λ n. row (given.Size c.args.side n)) (sym (to_z-of_z w32 c.in-Of.length fits))) (c.in_ok-length.ensures.leads (to c.args.side row)) }

pub returns-in-Stops : goal.returns-in-Stops
returns-in-Stops g c = record { leads = λ row. read-ends (behind_reading (to c.args.side row)) (behind_reading row) (reading.Stops c.in-Stops.went) c.in-Stops.is refl (c.in_ok-length.ensures.leads (to c.args.side row)) }

pub returns-in_err-length : goal.returns-in_err-length
returns-in_err-length g c = record { leads = λ row. read-fails c.from_residual.result c.from_residual.ensures.0 (c.in_err-length.ensures.leads (to c.args.side row)) }
