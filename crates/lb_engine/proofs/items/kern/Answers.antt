use Rattle.std.proofs.Common.{FitsSigned, refl, rules, w32}
use Rattle.std.proofs.lemmas.Int.{to_z-of_z}
use Rattle.std.specs.Prelude.{ℤ}
use Rattle.lb_base.specs.declared.node.KernOrigin.TheVariants.{Explicit}
use Rattle.lb_base.specs.declared.node.Node as node
use Rattle.lb_model_nest.specs.Pages.{added}
use Rattle.lb_model_engine.specs.Items.{kern}
use Rattle.lb_model_nest.specs.declared.turn.Went.TheVariants.{On}
use Rattle.lb_model_nest.specs.Wholes.{Executed, Whole, executed}
use Rattle.lb_engine.proofs.RowLemmas.{act-is, read-ends, read-fails, read-then}
use Rattle.lb_engine.specs.Reads.{behind_reading}
use Rattle.lb_engine.proofs.items.kern.Goals as goal

-- what is done with it
abbrev to : ℤ → Whole → Executed
to n v = added (node.Kern n Explicit) v

pub add_kern-requires : goal.add_kern-requires
add_kern-requires g c = record { holds = (c.in_ok-width.ensures.leads (λ x. executed On)).keeps }

pub returns-in-Of : goal.returns-in-Of
unfolding kern
returns-in-Of g c =
    let fits : FitsSigned w32 c.in-Of.width = search rules in
    record {
      goes = read-then (behind_reading to) c.add_kern.result c.in-Of.is (c.in_ok-width.ensures.leads to) (act-is to c.add_kern.result (to_z-of_z w32 c.in-Of.width fits) c.add_kern.ensures.goes);
    }

pub returns-in-Stops : goal.returns-in-Stops
unfolding kern
returns-in-Stops g c = record { goes = read-ends (behind_reading to) executed c.in-Stops.went c.in-Stops.is refl (c.in_ok-width.ensures.leads to) }

pub returns-in_err-width : goal.returns-in_err-width
returns-in_err-width g c = record { goes = read-fails c.from_residual.result c.from_residual.ensures.0 (c.in_err-width.ensures.leads to) }
