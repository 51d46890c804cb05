use Rattle.std.proofs.Common.{◌≤◌, ◌∙◌, ◌∷◌, take, drop, length, sym, ap, arith, take_all}
use Rattle.std.proofs.lemmas.List.{take_rest, drop_all, drop-drop}
use Rattle.lb_model.specs.Tokens.{cut_lines}
use Rattle.lb_tokens.specs.Parts.{is_at_end, after_end}
use Rattle.lb_tokens.proofs.FirstLine.{further-more, line_ends, whole_line}
use Rattle.lb_tokens.proofs.lines.cut_line.Goals as goal

pub returns-then-is_at_end-clause-lines : goal.returns-then-is_at_end-clause-lines
returns-then-is_at_end-clause-lines c =
    let text = c.args.text.now in
    let end = c.loop-end.end in
    let here = take_rest text end in
    let rest = sym (ap (drop c.width_of_end.result) here) ∙ c.width_of_end.ensures.rest ∙ ap after_end here in
    line_ends text end c.requires c.loop-end.invariant (sym (ap is_at_end here) ∙ sym c.is_at_end.ensures ∙ c.if-is_at_end.true)
    ∙ ap (λ r. take end text ∷ cut_lines r) (sym rest ∙ drop-drop c.width_of_end.result end text)

pub loop-end-preserved : goal.loop-end-preserved
loop-end-preserved c =
    let here = take_rest c.args.text.now c.loop-end.end in
    further-more c.args.text.now c.loop-end.end c.loop-end.invariant (sym (ap is_at_end here) ∙ sym c.is_at_end.ensures ∙ c.if-is_at_end.false)

pub returns-clause-lines : goal.returns-clause-lines
returns-clause-lines c =
    let text = c.args.text.now in
    let all : length text ≤ length text = omega arith in
    whole_line text c.loop-end.end c.requires c.loop-end-test.false c.loop-end.invariant
    ∙ sym (ap (λ l. l ∷ cut_lines (drop (length text) text)) (take_all (length text) text all) ∙ ap (λ r. text ∷ cut_lines r) (drop_all (length text) text all))
