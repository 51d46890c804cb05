use Rattle.std.proofs.Common.{◌≡◌, ◌∙◌, ap, refl, nat_eq}
use lib.Pointwise.{pointwise}
use Rattle.lb_model_book.specs.PlainForm.{test_font}
use Rattle.lb_plain.specs.declared.font.TheConstants.{TEST_FONT}
use Rattle.lb_plain.proofs.form.is_test_font.Goals as goal

same_font : TEST_FONT ≡ test_font
unfolding test_font
same_font = refl

pub returns : goal.returns
returns c = c.eq.ensures ∙ ap (λ l. pointwise nat_eq c.args.bytes.now l) (c.as_slice.ensures ∙ same_font)
