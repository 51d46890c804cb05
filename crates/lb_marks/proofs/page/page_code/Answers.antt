use Rattle.std.proofs.Common.{◌≡◌, rules}
use Rattle.std.specs.Prelude.{Ok}
use Rattle.lb_model_paper.specs.Marks.{code_of_page, page_code_or_fault}
use Rattle.lb_marks.proofs.Pages.{code_made, code_stopped}
use Rattle.lb_marks.proofs.page.page_code.Goals as goal

pub returns-in-Ok : goal.returns-in-Ok
returns-in-Ok c =
    let made : page_code_or_fault c.args.number c.args.boxed.now ≡ Ok (code_of_page c.args.number c.args.boxed.now c.in-Ok.marks) = code_made c.args.number c.args.boxed.now c.in-Ok.marks c.in-Ok.ensures in
    search (rules, made)

pub returns-in-Err : goal.returns-in-Err
returns-in-Err c = code_stopped c.args.number c.args.boxed.now c.in-Err.stop c.in-Err.ensures
