use Rattle.lb_engine.proofs.RowLemmas.{act-is}
use Rattle.lb_engine.proofs.RowLemmas.{read-ends, read-fails, read-then}
use Rattle.lb_engine.proofs.latex_spaces.end_with_skip.Goals as goal
use Rattle.lb_engine.specs.Reads.{behind_reading}
use Rattle.lb_model_nest.specs.Items.{line_ended}
use Rattle.lb_model_nest.specs.Wholes.{Executed, Whole, executed}
use Rattle.lb_model_nest.specs.declared.turn.Went.TheVariants.{On}
use Rattle.std.proofs.Common.{FitsSigned, rules, w32}
use Rattle.std.proofs.Common.{refl}
use Rattle.std.proofs.lemmas.Int.{to_z-of_z}
use Rattle.std.specs.Prelude.{Bool, Some, ℤ}

-- what is done with it
abbrev to : Bool → ℤ → Whole → Executed
to starred n v = line_ended starred (Some n) v

pub end_line-requires : goal.end_line-requires
end_line-requires g c = record { holds = (c.in_ok-skip.ensures.leads (λ x. executed On)).keeps }

pub returns-in-Of : goal.returns-in-Of
returns-in-Of g c = record { goes = read-then (behind_reading (to c.args.starred)) c.end_line.result c.in-Of.is (c.in_ok-skip.ensures.leads (to c.args.starred)) (act-is (to c.args.starred) c.end_line.result (to_z-of_z w32 c.in-Of.skip (search rules)) c.end_line.ensures.goes) }

pub returns-in-Stops : goal.returns-in-Stops
returns-in-Stops g c = record { goes = read-ends (behind_reading (to c.args.starred)) executed c.in-Stops.went c.in-Stops.is refl (c.in_ok-skip.ensures.leads (to c.args.starred)) }

pub returns-in_err-skip : goal.returns-in_err-skip
returns-in_err-skip g c = record { goes = read-fails c.from_residual.result c.from_residual.ensures.0 (c.in_err-skip.ensures.leads (to c.args.starred)) }
