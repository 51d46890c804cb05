use Rattle.std.proofs.Common.{◌≡◌, ◌∙◌, List, ℕ, Option, sym, subst, true, false, IfOk}
use Rattle.lb_model.specs.Lines.{lines_of}
use Rattle.lb_plain.proofs.Names.{main-none, main-one, main-two}
use Rattle.lb_plain.proofs.main_file.names_of_main.Goals as goal

pub returns-then-is_empty : goal.returns-then-is_empty
returns-then-is_empty c = main-none c.args.text.now (sym c.is_empty.ensures ∙ c.if-is_empty.true)

pub returns-then-is_empty-2 : goal.returns-then-is_empty-2
returns-then-is_empty-2 c = main-one (lines_of c.args.text.now) c.split_line.result.0.now c.split_line.result.1.now c.split_line.ensures.lines (sym c.is_empty-2.ensures ∙ c.if-is_empty-2.true)

pub returns-then-not-is_opening : goal.returns-then-not-is_opening
returns-then-not-is_opening c =
    sym (main-two (lines_of c.args.text.now) c.split_line.result.0.now c.split_line.result.1.now c.split_line-2.result.0.now c.split_line-2.result.1.now c.split_line.ensures.lines c.split_line-2.ensures.lines false (sym c.is_opening.ensures ∙ c.if-not-is_opening.true))

pub returns : goal.returns
returns c =
    let e = main-two (lines_of c.args.text.now) c.split_line.result.0.now c.split_line.result.1.now c.split_line-2.result.0.now c.split_line-2.result.1.now c.split_line.ensures.lines c.split_line-2.ensures.lines true (sym c.is_opening.ensures ∙ c.if-not-is_opening.false) in
    subst (λ (names : Option (List (List ℕ))). IfOk c.names_to_end.result (λ n. n ≡ names)) (sym e) c.names_to_end.ensures
