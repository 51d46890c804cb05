use Rattle.std.proofs.Common.{◌∙◌, sym, ap, true, false}
use Rattle.std.specs.FinMap.{get}
use Rattle.lb_model.specs.Lines.{lines_of}
use Rattle.lb_model_book.specs.PlainForm.{names_of_main, is_plain_book}
use Rattle.lb_plain.proofs.Found.{plain-absent, plain-broken, plain-formed}
use Rattle.lb_plain.proofs.form.plain_names.Goals as goal

pub returns-in_default : goal.returns-in_default
returns-in_default c = plain-absent c.args.world.now (c.in_default.ensures ∙ ap (get c.args.world.now.files) c.in_ok-file.ensures)

pub returns-in_default-2 : goal.returns-in_default-2
returns-in_default-2 c = plain-broken c.args.world.now c.in-Some.text.now (c.in-Some.ensures ∙ ap (get c.args.world.now.files) c.in_ok-file.ensures) (sym c.in_default-2.is ∙ c.in_ok-names.ensures ∙ ap (λ t. names_of_main (lines_of t)) c.as_slice.ensures)

pub returns-then-branch : goal.returns-then-branch
returns-then-branch c = plain-formed c.args.world.now c.in-Some.text.now c.in-Some-2.names true (c.in-Some.ensures ∙ ap (get c.args.world.now.files) c.in_ok-file.ensures) (sym c.in-Some-2.is ∙ c.in_ok-names.ensures ∙ ap (λ t. names_of_main (lines_of t)) c.as_slice.ensures) (sym (c.in_ok-is_plain_book.ensures ∙ ap (is_plain_book c.args.world.now) c.as_slice-2.ensures) ∙ c.if-branch.true)

pub returns : goal.returns
returns c = plain-formed c.args.world.now c.in-Some.text.now c.in-Some-2.names false (c.in-Some.ensures ∙ ap (get c.args.world.now.files) c.in_ok-file.ensures) (sym c.in-Some-2.is ∙ c.in_ok-names.ensures ∙ ap (λ t. names_of_main (lines_of t)) c.as_slice.ensures) (sym (c.in_ok-is_plain_book.ensures ∙ ap (is_plain_book c.args.world.now) c.as_slice-2.ensures) ∙ c.if-branch.false)
