use Rattle.std.proofs.Common.{◌∙◌, sym}
use Rattle.lb_tokens.proofs.FirstLine.{none_in}
use Rattle.lb_tokens.proofs.lines.Lines.next_line.Goals as goal

pub returns-then-is_empty-clause-line : goal.returns-then-is_empty-clause-line
returns-then-is_empty-clause-line c = none_in c.args.self.now.rest.now (sym c.is_empty.ensures ∙ c.if-is_empty.true)
