-- What the stages of a scan of a dimension mean, whatever comes of the dimension.
use Rattle.std.specs.Prelude.{◌+◌, ◌*◌, ◌/◌, ◌^◌, Bool, ℕ, nat_le, List, [], ◌∷◌, Option, None, Some, if◌then◌else◌}
use Rattle.lb_base.specs.declared.fault.Kind.TheVariants.{NumberMissing, UnitMissing}
use Rattle.lb_model_grammar.specs.declared.given.Given.{Given}
use Rattle.lb_model_grammar.specs.declared.given.Given.TheVariants.{Tok as AToken, Quantity}
use Rattle.lb_model_grammar.specs.declared.given.Scanned.{Scanned}
use Rattle.lb_model_grammar.specs.declared.given.Want.TheVariants as want
use Rattle.lb_model_grammar.specs.Dimensions.{Uses, behind_whole, font_unit, in_unit, internal, internal_unit, length_behind, sized, unit}
use Rattle.lb_model_grammar.specs.Scans.{Meant, digit_of, digits, if_digit, one_of, space_before}
use Rattle.lb_model_grammar.specs.Scans.Meant.{Open, Wrong}
use Rattle.lb_scan.specs.declared.length.Ending.{Ending}
use Rattle.lb_scan.specs.declared.length.Ending.TheVariants.{Alone, Missing, Fails, Found, FoundBefore}
use Rattle.lb_scan.specs.declared.length.Length.{Length}
use Rattle.lb_scan.specs.declared.length.Length.TheVariants.{Signs, Whole, Fraction, Unit_, Letters, InternalUnit, FontUnit, Internal, Space}
use Rattle.lb_scan.specs.Words.{endings}

-- the digits behind a point, of which the first 17 count: those that were read make the number v, which counts in parts of the scale
abbrev pub counted : Uses → Bool → ℕ → ℕ → ℕ → List Given → Meant Scanned
counted u negative whole scale v [] = Open want.Expanded
counted u negative whole scale v (AToken t ∷ given) =
    if_digit (digit_of 10 t)
    (λ d. if nat_le (10 ^ 17) scale then counted u negative whole scale v given else counted u negative whole (10 * scale) (10 * v + d) given)
    (unit u negative whole ((131072 * v + scale) / (2 * scale)) (AToken t ∷ given))
counted u negative whole scale v (g ∷ given) = u.missing UnitMissing

-- what comes of a stage where this is given yet
abbrev pub length_after : Uses → Length → List Given → Meant Scanned
length_after u (Signs negative) given = length_behind u negative given
length_after u (Whole negative v) given = digits 10 v (behind_whole u negative) given
length_after u (Fraction negative whole digits) given = counted u negative whole digits.scale digits.value given
length_after u (Unit_ d) given = unit u d.negative d.whole d.part given
length_after u (Letters d prefix) given = one_of (endings prefix) (in_unit u d.negative d.whole d.part) (u.missing UnitMissing) given
length_after u (InternalUnit d) given = internal_unit u d.negative d.whole d.part given
length_after u (FontUnit d asked) given = font_unit u asked d.negative d.whole d.part given
length_after u (Internal negative) given = internal u negative given
length_after u (Space s) given = space_before (sized u s.negative s.order s.size) given

-- what comes of an end at what was given, where more is given
abbrev pub ended_length : Uses → Ending → Given → List Given → Meant Scanned
ended_length u (Alone negative) (Quantity q) more = u.alone negative q more
ended_length u (Alone negative) g more = u.missing NumberMissing
ended_length u (Missing kind) g more = u.missing kind
ended_length u (Fails kind) g more = Wrong kind
ended_length u (Found order v) g more = u.found order v more
ended_length u (FoundBefore order v) g more = u.found order v (g ∷ more)

-- what comes of a turn at what was given, where more is given: the next stage goes on, or there is an end
abbrev pub turned_length : Uses → Length → Option Ending → Given → List Given → Meant Scanned
turned_length u stage None g more = length_after u stage more
turned_length u stage (Some end) g more = ended_length u end g more
