use Rattle.std.proofs.Common.{subst}
use Rattle.std.specs.Prelude.{Ok}
use Rattle.std.specs.declared.alloc.AllocError.{AllocError}
use Rattle.lb_model_expansion.specs.Expansion.{resume, token_met}
use Rattle.lb_expand.specs.Performs.{Performs}
use Rattle.lb_expand.proofs.PassLemmas.{and-ended, and-performs}
use Rattle.lb_expand.proofs.feeder.Feeder.step_from.Goals as goal

pub returns-in-On-clause-performs : goal.returns-in-On-clause-performs
returns-in-On-clause-performs g c =
    let C = g.C.Cells in
    let first = subst (λ w. Performs {E = AllocError} C (token_met c.args.tok) (Ok w) c.meet_token.new.self.cells.now c.meet_token.new.self.desk.now c.args.self.now.cells.now c.args.self.now.desk.now) c.in-On.is c.in_ok-went.ensures.performs in
    and-performs (token_met c.args.tok) (λ d. resume d.readings d) c.resume.result first c.resume.ensures.performs

pub returns-in_default : goal.returns-in_default
returns-in_default g c =
    let went = c.in_ok-went.ensures in
    record {
      performs = and-ended (token_met c.args.tok) (λ d. resume d.readings d) c.in_ok-went.went c.in_default.not-On went.performs;
      same_cells = went.same_cells;
      same_desk = went.same_desk;
    }
