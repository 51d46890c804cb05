use Rattle.std.proofs.Common.{subst}
use Rattle.std.specs.Prelude.{Ok}
use Rattle.std.specs.declared.alloc.AllocError.{AllocError}
use Rattle.lb_model_expansion.specs.Expansion.{resumed, token_met}
use Rattle.lb_expand.specs.Performs.{Performs}
use Rattle.lb_expand.specs.Turns.{ran_from}
use Rattle.lb_expand.proofs.PassLemmas.{and-ended, and-performs}
use Rattle.lb_expand.proofs.feeder.Feeder.run_from.Goals as goal

pub returns-in-On-clause-performs : goal.returns-in-On-clause-performs
returns-in-On-clause-performs g c =
    let C = g.C.Cells in
    let first = subst (λ w. Performs {E = AllocError} C (λ d. resumed (token_met c.args.tok d)) (Ok w) c.step_from.new.self.cells.now c.step_from.new.self.desk.now c.args.self.now.cells.now c.args.self.now.desk.now) c.in-On.is c.in_ok-went.ensures.performs in
    λ turns a. and-performs (λ d. resumed (token_met c.args.tok d)) (ran_from turns) c.run.result first (c.run.ensures.turns turns a)

pub returns-in_default : goal.returns-in_default
returns-in_default g c =
    let went = c.in_ok-went.ensures in
    record {
      performs = λ turns a. and-ended (λ d. resumed (token_met c.args.tok d)) (ran_from turns) c.in_ok-went.went c.in_default.not-On went.performs;
      same_cells = went.same_cells;
      same_desk = went.same_desk;
    }
