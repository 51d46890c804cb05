-- Dimensions and glue (TeXbook, chapter 24; tex.web, part 26): a decimal and a unit, or an internal quantity.
use Rattle.std.specs.Prelude.{◌+◌, ◌*◌, ◌/◌, ◌++◌, Bool, true, false, not, ℕ, ℤ, pos, negsuc, nat_abs, nat_lt, List, [], ◌∷◌, take, codes, if◌then◌else◌}
use Rattle.lb_base.specs.declared.fault.Kind.{Kind}
use Rattle.lb_base.specs.declared.fault.Kind.TheVariants.{NumberMissing, NumberTooBig, UnitMissing, DimenTooLarge}
use Rattle.lb_base.specs.declared.glue.Glue.{Glue}
use Rattle.lb_base.specs.declared.glue.Order.{Order}
use Rattle.lb_base.specs.declared.glue.Order.TheVariants.{Finite, Fil, Fill, Filll}
use Rattle.lb_base.specs.Decimals.{fraction_from_digits}
use Rattle.lb_base.specs.declared.token.Tok.{Tok}
use Rattle.lb_model_grammar.specs.declared.class.Class.{Class}
use Rattle.lb_model_grammar.specs.declared.given.Given.{Given}
use Rattle.lb_model_grammar.specs.declared.given.Given.TheVariants.{Tok as AToken, Quantity as AQuantity}
use Rattle.lb_model_grammar.specs.declared.given.Quantity.{Quantity}
use Rattle.lb_model_grammar.specs.declared.given.Quantity.TheVariants as quantity
use Rattle.lb_model_grammar.specs.declared.given.Scanned.{Scanned}
use Rattle.lb_model_grammar.specs.declared.given.Scanned.TheVariants as scanned
use Rattle.lb_model_grammar.specs.declared.given.Want.{Want}
use Rattle.lb_model_grammar.specs.declared.given.Want.TheVariants as want
use Rattle.lb_model_grammar.specs.declared.given.ScanKind.{ScanKind}
use Rattle.lb_model_grammar.specs.declared.given.ScanKind.TheVariants as scan_kind
use Rattle.lb_model_grammar.specs.Numbers.{number}
use Rattle.lb_model_grammar.specs.Scans.{Meant, class_of, digit_of, digits, if_digit, is_other, keyword, one_of, signed, space_before}
use Rattle.lb_model_grammar.specs.Scans.Meant.{Open, Ended, Wrong}
use Rattle.lb_model_grammar.specs.declared.class.Class.TheVariants.{Space, Plus, Minus, Digit, Point, Command}

-- ---- Units

-- a unit of so many 65536ths of a point, as a fraction; a scaled point; one of the present font; one of infinite glue
pub data Unit_of : Type 0 where
  Physical : ℕ → ℕ → Unit_of
  Scaled : Unit_of
  OfFont : Want → Unit_of
  Infinite : Order → Unit_of

abbrev pub units : List (List ℕ × Unit_of)
units =
    (codes "pt", Physical 1 1)
    ∷ (codes "in", Physical 7227 100)
    ∷ (codes "pc", Physical 12 1)
    ∷ (codes "cm", Physical 7227 254)
    ∷ (codes "mm", Physical 7227 2540)
    ∷ (codes "bp", Physical 7227 7200)
    ∷ (codes "dd", Physical 1238 1157)
    ∷ (codes "cc", Physical 14856 1157)
    ∷ (codes "sp", Scaled)
    ∷ (codes "em", OfFont want.Em)
    ∷ (codes "ex", OfFont want.Ex)
    ∷ []

-- what glue stretches or shrinks by may also be infinite
abbrev pub glue_units : List (List ℕ × Unit_of)
glue_units = (codes "filll", Infinite Filll) ∷ (codes "fill", Infinite Fill) ∷ (codes "fil", Infinite Fil) ∷ units

-- ---- A dimension, of which one may say what comes of it

-- its units; what comes of a value of an order, of an internal quantity alone, and where it is missing
pub record Uses : Type 0 where
  pub units : List (List ℕ × Unit_of)
  pub found : Order → ℤ → List Given → Meant Scanned
  pub alone : Bool → Quantity → List Given → Meant Scanned
  pub missing : Kind → Meant Scanned

-- a size below the limit, with its sign
abbrev pub sized : Uses → Bool → Order → ℕ → List Given → Meant Scanned
sized u negative order size rest = if nat_lt size 1073741824 then u.found order (signed negative (pos size)) rest else Wrong DimenTooLarge

-- so many times a dimension, and a fraction of it in 65536ths, cut toward zero
abbrev pub times : ℕ → ℕ → ℕ → ℕ
times whole fraction size = whole * size + fraction * size / 65536

abbrev pub is_negative : ℤ → Bool
is_negative (pos n) = false
is_negative (negsuc n) = true

abbrev pub xor : Bool → Bool → Bool
xor true b = not b
xor false b = b

-- a multiple of an internal dimension
abbrev pub multiple : Uses → Bool → ℕ → ℕ → ℤ → List Given → Meant Scanned
multiple u negative whole fraction v rest = sized u (xor negative (is_negative v)) Finite (times whole fraction (nat_abs v)) rest

-- what a control sequence stands for in place of a unit
abbrev pub internal_unit : Uses → Bool → ℕ → ℕ → List Given → Meant Scanned
internal_unit u negative whole fraction [] = Open want.Quantity
internal_unit u negative whole fraction (AQuantity (quantity.Dimen v) ∷ given) = multiple u negative whole fraction v given
internal_unit u negative whole fraction (g ∷ given) = u.missing UnitMissing

-- a unit of the present font, whose size is asked for, and one space that may stand behind it
abbrev pub font_unit : Uses → Want → Bool → ℕ → ℕ → List Given → Meant Scanned
font_unit u asked negative whole fraction [] = Open asked
font_unit u asked negative whole fraction (AQuantity (quantity.Dimen v) ∷ given) = space_before (multiple u negative whole fraction v) given
font_unit u asked negative whole fraction (g ∷ given) = u.missing UnitMissing

-- the value in a unit, and one space that may stand behind it
abbrev pub in_unit : Uses → Bool → ℕ → ℕ → Unit_of → List Given → Meant Scanned
in_unit u negative whole fraction (Physical n d) given = space_before (sized u negative Finite (n * (65536 * whole + fraction) / d)) given
in_unit u negative whole fraction Scaled given = space_before (sized u negative Finite whole) given
in_unit u negative whole fraction (OfFont asked) given = font_unit u asked negative whole fraction given
in_unit u negative whole fraction (Infinite order) given = space_before (sized u negative order (65536 * whole + fraction)) given

-- the unit behind a decimal
abbrev pub unit_as : Class → Uses → Bool → ℕ → ℕ → Tok → Meant Scanned → List Given → Meant Scanned
unit_as Space u negative whole fraction t more given = more
unit_as Command u negative whole fraction t more given = internal_unit u negative whole fraction given
unit_as class u negative whole fraction t more given = one_of u.units (in_unit u negative whole fraction) (u.missing UnitMissing) (AToken t ∷ given)

abbrev pub unit : Uses → Bool → ℕ → ℕ → List Given → Meant Scanned
unit u negative whole fraction [] = Open want.Expanded
unit u negative whole fraction (AToken t ∷ given) = unit_as (class_of t) u negative whole fraction t (unit u negative whole fraction given) given
unit u negative whole fraction (g ∷ given) = u.missing UnitMissing

-- the digits behind a point, of which the first 17 count
abbrev pub fraction : Uses → Bool → ℕ → List ℕ → List Given → Meant Scanned
fraction u negative whole ds [] = Open want.Expanded
fraction u negative whole ds (AToken t ∷ given) =
    if_digit (digit_of 10 t) (λ d. fraction u negative whole (ds ++ d ∷ []) given) (unit u negative whole (fraction_from_digits (take 17 ds)) (AToken t ∷ given))
fraction u negative whole ds (g ∷ given) = u.missing UnitMissing

-- what stands behind the whole part of a decimal: a point and digits, or the unit
abbrev pub point_or_unit : Uses → Bool → ℕ → List Given → Meant Scanned
point_or_unit u negative whole [] = Open want.Expanded
point_or_unit u negative whole (AToken t ∷ given) = if is_other 46 t then fraction u negative whole [] given else unit u negative whole 0 (AToken t ∷ given)
point_or_unit u negative whole (g ∷ given) = u.missing UnitMissing

abbrev pub behind_whole : Uses → Bool → ℕ → List Given → Meant Scanned
behind_whole u negative whole given = if nat_lt whole 2147483648 then point_or_unit u negative whole given else Wrong NumberTooBig

-- an internal quantity alone
abbrev pub internal : Uses → Bool → List Given → Meant Scanned
internal u negative [] = Open want.Quantity
internal u negative (AQuantity q ∷ given) = u.alone negative q given
internal u negative (g ∷ given) = u.missing NumberMissing

-- what begins with a token of this class
abbrev pub length_as : Class → Uses → Bool → (Bool → Meant Scanned) → List Given → Meant Scanned
length_as Space u negative more given = more negative
length_as Plus u negative more given = more negative
length_as Minus u negative more given = more (not negative)
length_as (Digit d) u negative more given = digits 10 d (behind_whole u negative) given
length_as Point u negative more given = fraction u negative 0 [] given
length_as Command u negative more given = internal u negative given
length_as class u negative more given = u.missing NumberMissing

-- a dimension behind signs and spaces
abbrev pub length_behind : Uses → Bool → List Given → Meant Scanned
length_behind u negative [] = Open want.Expanded
length_behind u negative (AToken t ∷ given) = length_as (class_of t) u negative (λ n. length_behind u n given) given
length_behind u negative (g ∷ given) = u.missing NumberMissing

-- ---- A dimension by itself

abbrev pub dimension_alone : Bool → Quantity → List Given → Meant Scanned
dimension_alone negative (quantity.Dimen v) rest = Ended (scanned.Dimen (signed negative v)) rest
dimension_alone negative q rest = Wrong NumberMissing

abbrev pub dimension : List Given → Meant Scanned
dimension = length_behind (record { units = units; found = λ order v rest. Ended (scanned.Dimen v) rest; alone = dimension_alone; missing = Wrong }) false

-- ---- Glue

-- what glue shrinks by; where no such part stands there, the glue is what was read before
abbrev pub shrink_alone : Glue → List Given → Bool → Quantity → List Given → Meant Scanned
shrink_alone g before negative (quantity.Dimen v) rest = Ended (scanned.Skip (record g { shrink = signed negative v; shrink_order = Finite })) rest
shrink_alone g before negative q rest = Ended (scanned.Skip g) before

abbrev pub shrink : Glue → List Given → Meant Scanned
shrink g given =
    keyword (codes "minus")
    (length_behind (record { units = glue_units; found = λ order v rest. Ended (scanned.Skip (record g { shrink = v; shrink_order = order })) rest; alone = shrink_alone g given; missing = λ kind. Ended (scanned.Skip g) given }) false)
    (Ended (scanned.Skip g) given) given

abbrev pub stretch_alone : Glue → List Given → Bool → Quantity → List Given → Meant Scanned
stretch_alone g before negative (quantity.Dimen v) rest = shrink (record g { stretch = signed negative v; stretch_order = Finite }) rest
stretch_alone g before negative q rest = Ended (scanned.Skip g) before

-- what it stretches by, and then what it shrinks by
abbrev pub stretch : Glue → List Given → Meant Scanned
stretch g given =
    keyword (codes "plus")
    (length_behind (record { units = glue_units; found = λ order v rest. shrink (record g { stretch = v; stretch_order = order }) rest; alone = stretch_alone g given; missing = λ kind. Ended (scanned.Skip g) given }) false)
    (shrink g given) given

abbrev pub of_width : ℤ → Glue
of_width v = record { width = v; stretch = pos 0; stretch_order = Finite; shrink = pos 0; shrink_order = Finite }

abbrev pub signed_glue : Bool → Glue → Glue
signed_glue negative g = record g { width = signed negative g.width; stretch = signed negative g.stretch; shrink = signed negative g.shrink }

abbrev pub glue_alone : Bool → Quantity → List Given → Meant Scanned
glue_alone negative (quantity.Skip g) rest = Ended (scanned.Skip (signed_glue negative g)) rest
glue_alone negative (quantity.Dimen v) rest = stretch (of_width (signed negative v)) rest
glue_alone negative q rest = Wrong NumberMissing

-- internal glue, or a dimension with what it stretches and shrinks by
abbrev pub glue : List Given → Meant Scanned
glue = length_behind (record { units = units; found = λ order v rest. stretch (of_width v) rest; alone = glue_alone; missing = Wrong }) false

-- ---- All scans

-- what was given means as the beginning of a scan. A word that is not found leaves all that was given
abbrev pub meant : ScanKind → List Given → Meant Scanned
meant scan_kind.Number given = number false given
meant scan_kind.Dimen given = dimension given
meant scan_kind.Glue given = glue given
meant (scan_kind.Keyword word) given = keyword word (Ended (scanned.Found true)) (Ended (scanned.Found false) given) given
