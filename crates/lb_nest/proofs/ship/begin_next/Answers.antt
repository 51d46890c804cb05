use Rattle.lb_values.specs.declared.cell.Cell.TheVariants.{ThisStyle}
use Rattle.lb_values.specs.declared.reach.Reach.TheVariants.{Global}
use Rattle.lb_values.specs.declared.value.Value.TheVariants.{Absent}
use Rattle.lb_model_nest.specs.Wholes.{change}
use Rattle.lb_nest.specs.Pages.{counted}
use Rattle.lb_nest.proofs.LeadsLemmas.{leads-ended, leads-then}
use Rattle.lb_nest.proofs.LoopLemmas.{leads-failed}
use Rattle.lb_nest.proofs.ship.begin_next.Goals as goal

pub returns-in_err-went : goal.returns-in_err-went
returns-in_err-went g c = record { goes = λ left. leads-failed _ c.from_residual.result c.from_residual.ensures.1 (c.in_err-went.ensures.goes left) }

pub change-requires-clause-keeps : goal.change-requires-clause-keeps
change-requires-clause-keeps g c = (c.in_ok-went.ensures.goes 0).keeps

pub returns-in-On : goal.returns-in-On
returns-in-On g c =
    record {
      goes = λ left. leads-then (counted c.args.numbering.number) (change Global ThisStyle Absent) c.change.result c.in-On.is (c.in_ok-went.ensures.goes left) (c.change.ensures.goes left);
    }

pub returns-in_default : goal.returns-in_default
returns-in_default g c =
    record { goes = λ left. leads-ended (counted c.args.numbering.number) (change Global ThisStyle Absent) c.in_ok-went.went c.in_default.not-On (c.in_ok-went.ensures.goes left) }
