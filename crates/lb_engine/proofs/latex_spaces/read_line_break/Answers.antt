use Rattle.lb_engine.proofs.RowLemmas.{read-ends, read-fails, read-then}
use Rattle.lb_engine.proofs.latex_spaces.read_line_break.Goals as goal
use Rattle.lb_engine.specs.Reads.{behind_reading}
use Rattle.lb_model_engine.specs.Items.{skip_to}
use Rattle.lb_model_engine.specs.Reads.{bracket, reading}
use Rattle.lb_model_nest.specs.Items.{line_ended}
use Rattle.lb_model_nest.specs.Wholes.{Executed, Whole, executed}
use Rattle.lb_model_nest.specs.declared.turn.Went.TheVariants.{On}
use Rattle.std.proofs.Common.{refl}
use Rattle.std.specs.Prelude.{Bool}

-- what is done with it
abbrev to : Bool → Whole → Executed
to starred v = reading bracket (λ toks u. skip_to toks (line_ended starred) u) v

pub end_behind_star-requires : goal.end_behind_star-requires
end_behind_star-requires g c = record { holds = (c.in_ok-starred.ensures.leads (λ x. executed On)).keeps }

pub returns-in-Of : goal.returns-in-Of
returns-in-Of g c = record { goes = read-then (behind_reading to) c.end_behind_star.result c.in-Of.is (c.in_ok-starred.ensures.leads to) c.end_behind_star.ensures.goes }

pub returns-in-Stops : goal.returns-in-Stops
returns-in-Stops g c = record { goes = read-ends (behind_reading to) executed c.in-Stops.went c.in-Stops.is refl (c.in_ok-starred.ensures.leads to) }

pub returns-in_err-starred : goal.returns-in_err-starred
returns-in_err-starred g c = record { goes = read-fails c.from_residual.result c.from_residual.ensures.0 (c.in_err-starred.ensures.leads to) }
