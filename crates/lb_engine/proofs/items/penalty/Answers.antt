use Rattle.std.proofs.Common.{FitsSigned, refl, rules, w32}
use Rattle.std.proofs.lemmas.Int.{to_z-of_z}
use Rattle.std.specs.Prelude.{ℤ}
use Rattle.lb_base.specs.declared.node.Node as node
use Rattle.lb_model_nest.specs.Pages.{added}
use Rattle.lb_model_engine.specs.Items.{penalty}
use Rattle.lb_model_nest.specs.declared.turn.Went.TheVariants.{On}
use Rattle.lb_model_nest.specs.Wholes.{Executed, Whole, executed}
use Rattle.lb_engine.proofs.RowLemmas.{act-is, read-ends, read-fails, read-then}
use Rattle.lb_engine.specs.Reads.{behind_reading}
use Rattle.lb_engine.proofs.items.penalty.Goals as goal

-- what is done with it
abbrev to : ℤ → Whole → Executed
to n v = added (node.Penalty n) v

pub add_penalty-requires : goal.add_penalty-requires
add_penalty-requires g c = record { holds = (c.in_ok-penalty.ensures.leads (λ x. executed On)).keeps }

pub returns-in-Of : goal.returns-in-Of
unfolding penalty
returns-in-Of g c =
    let fits : FitsSigned w32 c.in-Of.penalty = search rules in
    record {
      goes = read-then (behind_reading to) c.add_penalty.result c.in-Of.is (c.in_ok-penalty.ensures.leads to) (act-is to c.add_penalty.result (to_z-of_z w32 c.in-Of.penalty fits) c.add_penalty.ensures.goes);
    }

pub returns-in-Stops : goal.returns-in-Stops
unfolding penalty
returns-in-Stops g c = record { goes = read-ends (behind_reading to) executed c.in-Stops.went c.in-Stops.is refl (c.in_ok-penalty.ensures.leads to) }

pub returns-in_err-penalty : goal.returns-in_err-penalty
returns-in_err-penalty g c = record { goes = read-fails c.from_residual.result c.from_residual.ensures.0 (c.in_err-penalty.ensures.leads to) }
