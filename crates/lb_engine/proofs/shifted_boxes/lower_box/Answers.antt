use Rattle.lb_engine.proofs.RowLemmas.{act-is, read-ends, read-fails, read-then}
use Rattle.lb_engine.specs.Reads.{behind_reading}
use Rattle.lb_model_engine.specs.Boxes.{box_wanted}
use Rattle.lb_model_nest.specs.Wholes.{Executed, Whole, executed}
use Rattle.lb_model_nest.specs.declared.nest.BoxContext.TheVariants.{Shifted}
use Rattle.lb_model_nest.specs.declared.turn.Went.TheVariants.{On}
use Rattle.std.proofs.Common.{FitsSigned, refl, rules, w32}
use Rattle.std.proofs.lemmas.Int.{to_z-of_z}
use Rattle.std.specs.Prelude.{ℤ}
use Rattle.lb_engine.proofs.shifted_boxes.lower_box.Goals as goal

-- what is done with it
abbrev to : ℤ → Whole → Executed
to n v = box_wanted (Shifted n) v

pub want_box-requires : goal.want_box-requires
want_box-requires g c = record { holds = (c.in_ok-depth.ensures.leads (λ x. executed On)).keeps }

pub returns-in-Of : goal.returns-in-Of
returns-in-Of g c = let fits : FitsSigned w32 c.in-Of.depth = search rules in record { goes = read-then (behind_reading to) c.want_box.result c.in-Of.is (c.in_ok-depth.ensures.leads to) (act-is to c.want_box.result (to_z-of_z w32 c.in-Of.depth fits) c.want_box.ensures.goes) }

pub returns-in-Stops : goal.returns-in-Stops
returns-in-Stops g c = record { goes = read-ends (behind_reading to) executed c.in-Stops.went c.in-Stops.is refl (c.in_ok-depth.ensures.leads to) }

pub returns-in_err-depth : goal.returns-in_err-depth
returns-in_err-depth g c = record { goes = read-fails c.from_residual.result c.from_residual.ensures.0 (c.in_err-depth.ensures.leads to) }
