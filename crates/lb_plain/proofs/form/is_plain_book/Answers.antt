use Rattle.std.proofs.Common.{◌≡◌, ◌∙◌, Bool, sym, subst, IfOk}
use Rattle.lb_plain.proofs.Parted.{book-labelled, book-clear}
use Rattle.lb_plain.proofs.form.is_plain_book.Goals as goal

pub returns-then-has_labels : goal.returns-then-has_labels
returns-then-has_labels c =
    book-labelled c.args.world.now c.args.names.now (sym c.are_good_names.ensures ∙ c.if-not-are_good_names.false) (sym c.in_ok-has_test_font.ensures ∙ c.if-not-branch.false) (sym c.has_labels.ensures ∙ c.if-has_labels.true)

pub returns : goal.returns
returns c =
    let e = book-clear c.args.world.now c.args.names.now (sym c.are_good_names.ensures ∙ c.if-not-are_good_names.false) (sym c.in_ok-has_test_font.ensures ∙ c.if-not-branch.false) (sym c.has_labels.ensures ∙ c.if-has_labels.false) in
    subst (λ (b : Bool). IfOk c.are_plain_chapters.result (λ holds. holds ≡ b)) e c.are_plain_chapters.ensures
