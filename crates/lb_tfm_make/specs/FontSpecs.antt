-- Short descriptions of fonts. Fix-words have 20 binary places (the TFM format, tex.web, sections 540 to 547).
use Rattle.std.specs.Prelude.{◌≡◌, ℕ, ◌+◌, ◌<◌, ◌≤◌, Bool, true, ◌&&◌, ◌==◌, nat_lt, nat_le, is_some, List, [], ◌∷◌, length, Option, ℤ, pos, negsuc}
use Rattle.std.specs.List.{find, list_all}
use Rattle.lb_tfm_make.specs.declared.spec.CharWidth.{CharWidth}
use Rattle.lb_tfm_make.specs.declared.spec.FixParameters.{FixParameters}
use Rattle.lb_tfm_make.specs.declared.spec.FontSpec.{FontSpec}
use Rattle.lb_tfm_make.specs.declared.spec.PairStep.{PairStep}

-- below 16 in size, where 1 is 2^20
abbrev pub is_fix : ℤ → Bool
is_fix (pos n) = nat_lt n 16777216
is_fix (negsuc n) = nat_lt n 16777215

abbrev pub are_fix : FixParameters → Bool
are_fix p = is_fix p.slant && ((is_fix p.space && (is_fix p.stretch && is_fix p.shrink)) && (is_fix p.x_height && (is_fix p.quad && is_fix p.extra_space)))

abbrev pub has_code : ℕ → CharWidth → Bool
has_code code row = row.code == code

-- the row of a code
abbrev pub row_of : List CharWidth → ℕ → Option CharWidth
row_of rows code = find (has_code code) rows

abbrev pub is_code : List CharWidth → ℕ → Bool
is_code rows code = is_some (row_of rows code)

-- the codes rise, and are no less than this
unfoldable pub rise_from : ℕ → List CharWidth → Bool
rise_from low [] = true
rise_from low (row ∷ rows) = nat_le low row.code && rise_from (row.code + 1) rows

unfoldable pub are_fix_widths : List CharWidth → Bool
are_fix_widths rows = list_all (λ (row : CharWidth). is_fix row.width) rows

-- a step between a character of the font and any, which puts a character of the font there by an operation below 128
abbrev pub is_right_step : List CharWidth → PairStep → Bool
is_right_step rows step = is_code rows step.left && (is_code rows step.rem && nat_lt step.op 128)

unfoldable pub are_right_steps : List CharWidth → List PairStep → Bool
are_right_steps rows steps = list_all (is_right_step rows) steps

pub record HasRightSizes (spec : FontSpec) : Type 0 where
  pub design_low : 1048576 ≤ spec.design
  pub design_high : spec.design < 2147483648
  pub height : is_fix spec.height ≡ true
  pub depth : is_fix spec.depth ≡ true
  pub params : are_fix spec.params ≡ true

-- the descriptions that a font can be made from, unless they have too many distinct widths
pub record IsValid (spec : FontSpec) : Type 0 where
  pub sizes : HasRightSizes spec
  pub some : 0 < length spec.widths
  pub rising : rise_from 0 spec.widths ≡ true
  pub widths : are_fix_widths spec.widths ≡ true
  pub few : length spec.steps ≤ 4096
  pub steps : are_right_steps spec.widths spec.steps ≡ true
