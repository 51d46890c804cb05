use Rattle.std.proofs.Common.{◌∙◌, rules}
use Rattle.lb_marks.proofs.MarkLists.{rule_same}
use Rattle.lb_marks.proofs.drawing.push_rule_at.Goals as goal

pub returns-clause-ok : goal.returns-clause-ok
returns-clause-ok c = c.in_ok-push.ensures.ok ∙ rule_same c.args.marks.now _ c.args.h _ c.args.v _ c.args.height _ c.args.width (search rules) (search rules) (search rules) (search rules)
