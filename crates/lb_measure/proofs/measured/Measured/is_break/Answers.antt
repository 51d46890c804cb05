use Rattle.std.proofs.Common.{◌≡◌, None, sym, ◌∙◌}
use Rattle.lb_model_paper.specs.Breaks.{penalty_at}
use Rattle.lb_measure.specs.Measures.{pass_of}
use Rattle.lb_measure.proofs.LineSums.{line_of_paragraph, no_break, no_stop, place_here, stop_of_paragraph, there_is}
use Rattle.lb_measure.proofs.measured.Measured.is_break.Goals as goal

pub returns-clause-line : goal.returns-clause-line
returns-clause-line c = λ none k i.
    let m = c.args.self.now in
    let place = place_here m c.args.j c.index.result.now c.requires.measured c.requires.j c.index.ensures in
    let none_at : penalty_at m.shape.rules m.list.now c.args.j ≡ None = sym place.penalty ∙ there_is c.index.result.now.penalty (sym c.is_some.ensures ∙ none) in
    sym (no_break m.shape (pass_of m) m.list.now i c.args.j none_at ∙ line_of_paragraph m.shape (pass_of m) m.list.now k i c.args.j)

pub returns-clause-stops : goal.returns-clause-stops
returns-clause-stops c = λ none k i.
    let m = c.args.self.now in
    let place = place_here m c.args.j c.index.result.now c.requires.measured c.requires.j c.index.ensures in
    let none_at : penalty_at m.shape.rules m.list.now c.args.j ≡ None = sym place.penalty ∙ there_is c.index.result.now.penalty (sym c.is_some.ensures ∙ none) in
    sym (no_stop m.shape m.list.now i c.args.j none_at ∙ stop_of_paragraph m.shape (pass_of m) m.list.now k i c.args.j)
