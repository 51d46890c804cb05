use Rattle.std.proofs.Common.{◌≡◌, ◌∙◌, ◌++◌, List, ap, sym, subst}
use Rattle.lb_base.specs.declared.page.Mark.{Mark}
use Rattle.lb_model_book.specs.PlainForm.{lines_with_text}
use Rattle.lb_model_book.specs.PlainPages.{lines_marks, number_marks}
use Rattle.lb_plain.proofs.Drawn.{IsDrawn, drawn}
use Rattle.lb_plain.proofs.page.plain_page.Goals as goal

pub returns-clause-drawable : goal.returns-clause-drawable
returns-clause-drawable c =
    let e : c.push_number.new.marks ≡ lines_marks 0 (lines_with_text c.args.text.now) ++ number_marks c.args.number = c.in_ok-push_number.ensures ∙ ap (λ m. m ++ number_marks c.args.number) (c.in_ok-count.ensures.marks ∙ ap (λ m. m ++ lines_marks 0 (lines_with_text c.args.text.now)) c.new-marks.ensures) in
    (subst (λ (m : List Mark). IsDrawn 2410 m) (sym e) (drawn c.args.text.now c.args.number c.requires.plain c.requires.number)).small

pub returns-clause-marks : goal.returns-clause-marks
returns-clause-marks c =
    let e : c.push_number.new.marks ≡ lines_marks 0 (lines_with_text c.args.text.now) ++ number_marks c.args.number = c.in_ok-push_number.ensures ∙ ap (λ m. m ++ number_marks c.args.number) (c.in_ok-count.ensures.marks ∙ ap (λ m. m ++ lines_marks 0 (lines_with_text c.args.text.now)) c.new-marks.ensures) in
    (subst (λ (m : List Mark). IsDrawn 2410 m) (sym e) (drawn c.args.text.now c.args.number c.requires.plain c.requires.number)).few

pub returns-clause-font : goal.returns-clause-font
returns-clause-font c =
    let e : c.push_number.new.marks ≡ lines_marks 0 (lines_with_text c.args.text.now) ++ number_marks c.args.number = c.in_ok-push_number.ensures ∙ ap (λ m. m ++ number_marks c.args.number) (c.in_ok-count.ensures.marks ∙ ap (λ m. m ++ lines_marks 0 (lines_with_text c.args.text.now)) c.new-marks.ensures) in
    (subst (λ (m : List Mark). IsDrawn 2410 m) (sym e) (drawn c.args.text.now c.args.number c.requires.plain c.requires.number)).roman
