use Rattle.lb_nest.specs.Pages.{marks_left, next_begun}
use Rattle.lb_nest.proofs.LeadsLemmas.{leads-ended, leads-then}
use Rattle.lb_nest.proofs.LoopLemmas.{leads-failed}
use Rattle.lb_nest.proofs.ship.leave_page.Goals as goal

pub returns-in_err-went : goal.returns-in_err-went
returns-in_err-went g c = record { goes = λ left. leads-failed _ c.from_residual.result c.from_residual.ensures.1 (c.in_err-went.ensures.goes left) }

pub carry_marks-requires : goal.carry_marks-requires
carry_marks-requires g c = record { keeps = (c.in_ok-went.ensures.goes 0).keeps }

pub returns-in-On : goal.returns-in-On
returns-in-On g c =
    record {
      goes = λ left. leads-then (next_begun c.args.numbering.number) (marks_left c.args.marks) c.carry_marks.result c.in-On.is (c.in_ok-went.ensures.goes left) (c.carry_marks.ensures.goes left);
    }

pub returns-in_default : goal.returns-in_default
returns-in_default g c =
    record { goes = λ left. leads-ended (next_begun c.args.numbering.number) (marks_left c.args.marks) c.in_ok-went.went c.in_default.not-On (c.in_ok-went.ensures.goes left) }
