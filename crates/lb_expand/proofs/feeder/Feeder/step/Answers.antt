use Rattle.std.proofs.Common.{refl, subst}
use Rattle.std.specs.Prelude.{Ok}
use Rattle.std.specs.declared.alloc.AllocError.{AllocError}
use Rattle.lb_model_expansion.specs.Expansion.{resume}
use Rattle.lb_expand.specs.Performs.{Performs}
use Rattle.lb_expand.specs.Turns.{met}
use Rattle.lb_expand.proofs.PassLemmas.{and-ended, and-performs, performs-after, same-passes}
use Rattle.lb_expand.proofs.TurnLemmas.{step-met}
use Rattle.lb_expand.proofs.feeder.Feeder.step.Goals as goal

pub returns-in-On-clause-performs : goal.returns-in-On-clause-performs
returns-in-On-clause-performs g c =
    let C = g.C.Cells in
    let first = subst (λ w. Performs {E = AllocError} C met (Ok w) c.meet.new.self.cells.now c.meet.new.self.desk.now c.args.self.now.cells.now c.args.self.now.desk.now) c.in-On.is c.in_ok-went.ensures.performs in
    performs-after c.resume.result (λ p h. h) (same-passes C step-met) refl refl (and-performs met (λ d. resume d.readings d) c.resume.result first c.resume.ensures.performs)

pub returns-in_default : goal.returns-in_default
returns-in_default g c =
    let went = c.in_ok-went.ensures in
    record {
      performs =
          performs-after (Ok c.in_ok-went.went) (λ p h. h) (same-passes g.C.Cells step-met) refl refl
          (and-ended met (λ d. resume d.readings d) c.in_ok-went.went c.in_default.not-On went.performs);
      same_cells = went.same_cells;
      same_desk = went.same_desk;
    }
