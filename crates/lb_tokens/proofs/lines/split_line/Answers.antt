use Rattle.std.proofs.Common.{◌∷◌, ◌∙◌, drop, map, ap, sym}
use Rattle.std.proofs.lemmas.List.{take_rest}
use Rattle.lb_model.specs.Lines.{lines_of, trimmed}
use Rattle.lb_tokens.proofs.lines.split_line.Goals as goal

pub returns-clause-lines : goal.returns-clause-lines
unfolding lines_of
returns-clause-lines c =
    let text = c.args.text.now in
    let next = c.cut_line-end.result.1 in
    ap (map trimmed) c.cut_line-end.ensures.lines
    ∙ ap (λ l. l ∷ lines_of (drop next text)) (sym c.trim_end.ensures)
    ∙ ap (λ r. c.trim_end.result.now ∷ lines_of r) (sym (take_rest text next))
