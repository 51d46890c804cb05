use Rattle.std.proofs.Common.{◌∙◌, rules}
use Rattle.lb_marks.proofs.MarkLists.{char_same}
use Rattle.lb_marks.proofs.drawing.push_char.Goals as goal

pub returns-clause-ok : goal.returns-clause-ok
returns-clause-ok c = c.in_ok-put_char.ensures ∙ char_same c.args.marks.now _ c.args.spot.h _ c.args.spot.v _ c.args.font.now _ _ c.args.width (search rules) (search rules) (search rules) (search rules)
