use Rattle.lb_engine.proofs.RowLemmas.{act-is, read-ends, read-fails, read-then}
use Rattle.lb_engine.specs.Reads.{behind_reading}
use Rattle.lb_model_engine.specs.Boxes.{box_wanted}
use Rattle.lb_model_nest.specs.Wholes.{Executed, Whole, executed}
use Rattle.lb_model_nest.specs.declared.nest.BoxContext.TheVariants.{Shifted}
use Rattle.lb_model_nest.specs.declared.turn.Went.TheVariants.{On}
use Rattle.std.proofs.Common.{FitsSigned, refl, rules, w32}
use Rattle.std.proofs.lemmas.Int.{to_z-of_z}
use Rattle.std.specs.Prelude.{neg_ℤ, ℤ}
use Rattle.lb_engine.proofs.shifted_boxes.raise_box.Goals as goal

-- what is done with it
abbrev to : ℤ → Whole → Executed
to n v = box_wanted (Shifted (neg_ℤ n)) v

pub raise_by-requires : goal.raise_by-requires
raise_by-requires g c = record { holds = (c.in_ok-height.ensures.leads (λ x. executed On)).keeps }

pub returns-in-Of : goal.returns-in-Of
returns-in-Of g c = let fits : FitsSigned w32 c.in-Of.height = search rules in record { goes = read-then (behind_reading to) c.raise_by.result c.in-Of.is (c.in_ok-height.ensures.leads to) (act-is to c.raise_by.result (to_z-of_z w32 c.in-Of.height fits) c.raise_by.ensures.goes) }

pub returns-in-Stops : goal.returns-in-Stops
returns-in-Stops g c = record { goes = read-ends (behind_reading to) executed c.in-Stops.went c.in-Stops.is refl (c.in_ok-height.ensures.leads to) }

pub returns-in_err-height : goal.returns-in_err-height
returns-in_err-height g c = record { goes = read-fails c.from_residual.result c.from_residual.ensures.0 (c.in_err-height.ensures.leads to) }
