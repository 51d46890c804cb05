-- Texts and tokens of rows that are worked out by hand, with the categories that characters have at the start.
use Rattle.std.specs.Prelude.{◌==◌, ◌&&◌, ◌||◌, nat_eq, nat_le, ℕ, ℤ, List, [], ◌∷◌, map, codes, if◌then◌else◌}
use Rattle.std.specs.Cmp.Lexicographic.{pointwise}
use Rattle.lb_base.specs.declared.glue.Glue.{Glue}
use Rattle.lb_base.specs.declared.glue.Order.{Order}
use Rattle.lb_base.specs.declared.token.Category.TheVariants.{BeginGroup, EndGroup, Letter, Other, Space}
use Rattle.lb_base.specs.declared.token.Tok.{Tok}
use Rattle.lb_base.specs.declared.token.Tok.TheVariants.{Char, Word}
use Rattle.lb_model_grammar.specs.declared.condition.Mark.{Mark}
use Rattle.lb_model_grammar.specs.declared.condition.Mark.TheVariants.{Opens, Passes, Stops}
use Rattle.lb_model_grammar.specs.declared.condition.Stopper.TheVariants.{Else, Fi, Or}
use Rattle.lb_model_grammar.specs.declared.given.Given.{Given}
use Rattle.lb_model_grammar.specs.declared.given.Given.TheVariants.{Quantity as AQuantity, Tok as AToken}
use Rattle.lb_model_grammar.specs.declared.given.Quantity.TheVariants.{Dimen, Number, Skip}

-- a character with its category
abbrev pub character : ℕ → Tok
character c =
    if c == 32 then Char Space 32
    else (if c == 123 then Char BeginGroup 123
    else (if c == 125 then Char EndGroup 125
    else (if (nat_le 65 c && nat_le c 90) || (nat_le 97 c && nat_le c 122) then Char Letter c else Char Other c)))

abbrev pub tokens : List ℕ → List Tok
tokens text = map character text

-- the same, as they are given to a reading
abbrev pub text : List ℕ → List Given
text bytes = map (λ c. AToken (character c)) bytes

-- a control sequence
abbrev pub control : List ℕ → List Given
control name = AToken (Word name) ∷ []

-- a control sequence that stands for an internal quantity
abbrev pub count : ℤ → List Given
count n = AToken (Word (codes "count")) ∷ AQuantity (Number n) ∷ []

abbrev pub dimen : ℤ → List Given
dimen v = AToken (Word (codes "dimen")) ∷ AQuantity (Dimen v) ∷ []

abbrev pub skip : Glue → List Given
skip g = AToken (Word (codes "skip")) ∷ AQuantity (Skip g) ∷ []

-- the quad or the x-height that was asked for
abbrev pub size : ℤ → List Given
size v = AQuantity (Dimen v) ∷ []

abbrev pub glue_of : ℤ → ℤ → Order → ℤ → Order → Glue
glue_of width stretch stretch_order shrink shrink_order =
    record { width = width; stretch = stretch; stretch_order = stretch_order; shrink = shrink; shrink_order = shrink_order }

-- `\iftrue` begins a conditional, and `\or`, `\else` and `\fi` end its parts
abbrev pub mark_of : Tok → Mark
mark_of (Word name) =
    if pointwise nat_eq name (codes "iftrue") then Opens
    else (if pointwise nat_eq name (codes "or") then Stops Or
    else (if pointwise nat_eq name (codes "else") then Stops Else
    else (if pointwise nat_eq name (codes "fi") then Stops Fi else Passes)))
mark_of tok = Passes
