use Rattle.std.proofs.Common.{◌≡◌, List, Ok, Err, Result, sym, subst, ap, ◌∙◌}
use Rattle.std.proofs.lemmas.Result.{err_from_is_err_and}
use Rattle.lb_base.specs.Answers.{Answers}
use Rattle.lb_base.specs.declared.fault.Kind.{Kind}
use Rattle.lb_base.specs.declared.fault.Stop.{Stop}
use Rattle.lb_base.specs.declared.node.Node.{Node}
use Rattle.lb_model_paper.specs.Lines.{lines_of}
use Rattle.lb_lines.specs.Apart.{lines_apart_of, lines_together}
use Rattle.lb_lines.proofs.Apart.{answers-together, lines-together}
use Rattle.lb_lines.proofs.paragraph.lines.Goals as goal

pub returns : goal.returns
returns c =
    lines-together c.args.shape.now c.args.list c.args.breaks.now.ends ∙ ap lines_together c.in_ok-lines.ensures
    ∙ ap (λ (ns : List Node). Ok ns) (sym c.in_ok-together.ensures)

pub returns-in_err-lines : goal.returns-in_err-lines
returns-in_err-lines c =
    let apart : Result (List (List Node)) Kind = lines_apart_of c.args.shape.now c.args.list c.args.breaks.now.ends in
    let whole : Result (List Node) Kind = lines_of c.args.shape.now c.args.list c.args.breaks.now.ends in
    let same = answers-together apart whole c.in_err-lines.field-0.0 (lines-together c.args.shape.now c.args.list c.args.breaks.now.ends) c.in_err-lines.ensures in
    let (y, is, gives) = err_from_is_err_and c.from_residual.result c.from_residual.ensures.1 in
    let from : y ≡ c.in_err-lines.field-0.0 = gives in
    subst (λ (r : Result (List Node) Stop). Answers {T = List Node} whole r) (sym is) (subst (λ (e : Stop). Answers {T = List Node} whole (Err e)) (sym from) same)
