use Rattle.std.specs.Prelude.{pos}
use Rattle.lb_values.specs.declared.cell.Cell.TheVariants.{Style}
use Rattle.lb_values.specs.declared.reach.Reach.TheVariants.{Local}
use Rattle.lb_values.specs.declared.value.Value.TheVariants.{Number}
use Rattle.lb_nest.specs.Boxes.{small_box_opened}
use Rattle.lb_model_nest.specs.Wholes.{change}
use Rattle.lb_nest.proofs.FailedLemmas.{leads-failed}
use Rattle.lb_nest.proofs.FailedLemmas.{leads-failed}
use Rattle.lb_nest.proofs.FailedLemmas.{leads-failed}
use Rattle.lb_nest.proofs.LeadsLemmas.{leads-ended, leads-then}
use Rattle.lb_nest.proofs.boxes.open_mark_box.Goals as goal

pub change-requires-clause-keeps : goal.change-requires-clause-keeps
change-requires-clause-keeps g c = (c.in_ok-went.ensures.goes 0).keeps

pub returns-in-On : goal.returns-in-On
returns-in-On g c =
    record { goes = λ left. leads-then (small_box_opened c.args.is_last) (change Local Style (Number (pos 0))) c.change.result c.in-On.is (c.in_ok-went.ensures.goes left) (c.change.ensures.goes left) }

pub returns-in_default : goal.returns-in_default
returns-in_default g c =
    record { goes = λ left. leads-ended (small_box_opened c.args.is_last) (change Local Style (Number (pos 0))) c.in_ok-went.went c.in_default.not-On (c.in_ok-went.ensures.goes left) }

pub returns-in_err-went : goal.returns-in_err-went
returns-in_err-went g c = record { goes = λ left. leads-failed c.from_residual.result c.in_err-went.field-0.0 c.from_residual.ensures.0 (c.in_err-went.ensures.goes left) c.args.nest.now }
