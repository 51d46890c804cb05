use Rattle.std.proofs.Common.{◌∙◌, ◌+◌, ◌∷◌, [], arith, sym, ap, drop}
use Rattle.std.proofs.lemmas.List.{take_rest}
use Rattle.lb_model_aux.specs.Reading.{lines_of}
use Rattle.lb_aux.proofs.LineCuts.{first-ended, first-open}
use Rattle.lb_aux.proofs.lines.split_line.Goals as goal

pub returns-then-end-text-clause-lines : goal.returns-then-end-text-clause-lines
returns-then-end-text-clause-lines c =
    let text = c.args.text.now in
    let end = c.feed_at-end.result in
    first-ended text end c.requires c.feed_at-end.ensures ∙ ap (λ l. l ∷ lines_of (drop (end + 1) text)) (sym c.without_ending-line.ensures) ∙ ap (λ r. c.without_ending-line.result.now ∷ lines_of r) (sym (take_rest text (end + 1)))

pub returns-else-end-text-clause-lines : goal.returns-else-end-text-clause-lines
returns-else-end-text-clause-lines c =
    let text = c.args.text.now in
    let end = c.feed_at-end.result in
    first-open text end c.requires c.feed_at-end.ensures (omega (arith, c.if-end-text.false)) ∙ ap (λ l. l ∷ lines_of []) (sym c.without_ending-line.ensures)
