-- What a value gives to one who wants a value of a kind: a count without a value counts as 0, a dimension and glue as 0pt, a list as empty.
-- A number that is out of the range of what is wanted counts as none; no state holds one.
use Rattle.std.specs.Prelude.{ℕ, cond, Bool, List, Option, None, Some, ℤ, pos}
use Rattle.lb_base.specs.declared.glue.Glue.{Glue}
use Rattle.lb_base.specs.declared.glue.Order.TheVariants.{Finite}
use Rattle.lb_base.specs.declared.node.Boxed.{Boxed}
use Rattle.lb_base.specs.declared.token.Category.{Category}
use Rattle.lb_base.specs.declared.token.Category.TheVariants.{Other}
use Rattle.lb_base.specs.declared.token.Tok.{Tok}
use Rattle.lb_values.specs.declared.meaning.Meaning.{Meaning}
use Rattle.lb_values.specs.declared.value.Form.{Form}
use Rattle.lb_values.specs.declared.value.LabelPair.{LabelPair}
use Rattle.lb_values.specs.declared.value.PageStyle.{PageStyle}
use Rattle.lb_values.specs.declared.value.Value.{Value}
use Rattle.lb_values.specs.declared.value.Value.TheVariants as value
use Rattle.lb_model.specs.Ranges.{is_between, is_dimension, is_glue, is_number}

abbrev pub category_of : Value → Category
category_of (value.Category category) = category
category_of _ = Other

abbrev pub code_of : Value → ℕ
code_of (value.Code code) = code
code_of _ = 0

-- the number, or another one where it does not pass a test
abbrev pub number_if : (ℤ → Bool) → ℤ → ℤ → ℤ
number_if test other n = cond (test n) n other

abbrev pub number_of : Value → ℤ
number_of (value.Number n) = number_if is_number (pos 0) n
number_of _ = pos 0

-- the number of a cell that need not have one, as of a counter
abbrev pub optional_number : Value → Option ℤ
optional_number (value.Number n) = Some (number_if is_number (pos 0) n)
optional_number _ = None

-- a space factor, from 0 to 32767, and 1000 where there is none
abbrev pub is_space_factor : ℤ → Bool
is_space_factor = is_between (pos 0) (pos 32767)

abbrev pub space_factor_of : Value → ℤ
space_factor_of (value.Number n) = number_if is_space_factor (pos 1000) n
space_factor_of _ = pos 1000

-- the style of a font, from 0 to 5, and its size, from 0 to 9
abbrev pub is_style : ℤ → Bool
is_style = is_between (pos 0) (pos 5)

abbrev pub style_of : Value → ℤ
style_of (value.Number n) = number_if is_style (pos 0) n
style_of _ = pos 0

abbrev pub is_size : ℤ → Bool
is_size = is_between (pos 0) (pos 9)

abbrev pub size_of : Value → ℤ
size_of (value.Number n) = number_if is_size (pos 0) n
size_of _ = pos 0

abbrev pub steps_of : Value → ℕ
steps_of (value.Steps steps) = steps
steps_of _ = 0

abbrev pub dimension_of : Value → ℤ
dimension_of (value.Dimen n) = number_if is_dimension (pos 0) n
dimension_of _ = pos 0

abbrev pub no_glue : Glue
no_glue = record { width = pos 0; stretch = pos 0; stretch_order = Finite; shrink = pos 0; shrink_order = Finite }

abbrev pub glue_of : Value → Glue
glue_of (value.Glue glue) = cond (is_glue glue) glue no_glue
glue_of _ = no_glue

abbrev pub meaning_of : Value → Option Meaning
meaning_of (value.Meaning meaning) = Some meaning
meaning_of _ = None

abbrev pub tokens_of : Value → Option (List Tok)
tokens_of (value.Tokens tokens) = Some tokens
tokens_of _ = None

abbrev pub text_of : Value → Option (List ℕ)
text_of (value.Text text) = Some text
text_of _ = None

abbrev pub name_of : Value → Option (List ℕ)
name_of (value.Name name) = Some name
name_of _ = None

abbrev pub names_of : Value → Option (List (List ℕ))
names_of (value.Names names) = Some names
names_of _ = None

abbrev pub boxed_of : Value → Option Boxed
boxed_of (value.Boxed boxed) = Some boxed
boxed_of _ = None

abbrev pub label_of : Value → Option LabelPair
label_of (value.Label label) = Some label
label_of _ = None

abbrev pub checkpoint_of : Value → Option (List (List ℕ × ℤ))
checkpoint_of (value.Checkpoint counters) = Some counters
checkpoint_of _ = None

abbrev pub form_of : Value → Option Form
form_of (value.Form form) = Some form
form_of _ = None

abbrev pub page_style_of : Value → Option PageStyle
page_style_of (value.PageStyle style) = Some style
page_style_of _ = None
