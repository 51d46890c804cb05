-- Numbers in the forms in which counters are printed (source2e, file ltcounts).
use Rattle.std.specs.Prelude.{ℕ, ℤ, List, Option, Some}
use Rattle.std.specs.Fmt.{signed_decimal}
use Rattle.lb_values.specs.declared.value.Form.{Form}
use Rattle.lb_values.specs.declared.value.Form.TheVariants.{Arabic, LowerRoman, UpperRoman, LowerAlph, UpperAlph}
use Rattle.lb_model_grammar.specs.Printed.{alph_form, raised, roman_form}

-- a number in a form, None where it is too large for it
abbrev pub in_form : Form → ℤ → Option (List ℕ)
in_form Arabic n = Some (signed_decimal n)
in_form LowerRoman n = roman_form (λ c. c) n
in_form UpperRoman n = roman_form raised n
in_form LowerAlph n = alph_form 96 n
in_form UpperAlph n = alph_form 64 n
