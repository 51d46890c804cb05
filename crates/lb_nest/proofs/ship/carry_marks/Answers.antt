use Rattle.lb_values.specs.declared.cell.Cell.TheVariants.{LeftMark, RightMark}
use Rattle.lb_model_nest.specs.Pages.{mark_carried}
use Rattle.lb_nest.proofs.LeadsLemmas.{leads-ended, leads-then}
use Rattle.lb_nest.proofs.LoopLemmas.{leads-failed}
use Rattle.lb_nest.proofs.ship.carry_marks.Goals as goal

pub returns-in_err-went : goal.returns-in_err-went
returns-in_err-went g c = record { goes = λ left. leads-failed _ c.from_residual.result c.from_residual.ensures.1 (c.in_err-went.ensures.goes left) }

pub carry_right-requires : goal.carry_right-requires
carry_right-requires g c = record { keeps = (c.in_ok-went.ensures.goes 0).keeps }

pub returns-in-On : goal.returns-in-On
returns-in-On g c =
    let m = c.args.marks in
    record {
      goes = λ left. leads-then (mark_carried LeftMark m.left) (mark_carried RightMark m.right) c.carry_right.result c.in-On.is (c.in_ok-went.ensures.goes left) (c.carry_right.ensures.goes left);
    }

pub returns-in_default : goal.returns-in_default
returns-in_default g c =
    let m = c.args.marks in
    record { goes = λ left. leads-ended (mark_carried LeftMark m.left) (mark_carried RightMark m.right) c.in_ok-went.went c.in_default.not-On (c.in_ok-went.ensures.goes left) }
