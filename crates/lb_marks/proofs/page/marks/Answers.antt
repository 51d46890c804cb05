use Rattle.std.proofs.Common.{rules}
use Rattle.lb_marks.proofs.Pages.{marks_made, marks_stopped}
use Rattle.lb_marks.proofs.page.marks.Goals as goal

pub returns-in-Ok : goal.returns-in-Ok
returns-in-Ok c = marks_made c.args.boxed.now _ c.push_box.new.marks _ c.in-Ok.ensures.ok c.in-Ok.ensures.small (search rules) (search rules)

pub returns-in-Err : goal.returns-in-Err
returns-in-Err c = marks_stopped c.args.boxed.now _ c.in-Err.stop c.in-Err.ensures.stop (search rules)
