-- Definitions: macros, copies of meanings, and names of characters and registers (TeXbook, chapters 20 and 24; tex.web, part 49, sections 1208 to
-- 1225).
use Rattle.std.specs.Prelude.{◌+◌, ◌-◌, ◌++◌, ◌&&◌, Bool, true, false, ℕ, suc, nat_le, nat_lt, List, [], ◌∷◌, length, Option, Some, None, if◌then◌else◌}
use Rattle.lb_base.specs.declared.fault.Kind.TheVariants.{DepthLimit, Runaway, TokenMisplaced}
use Rattle.lb_base.specs.declared.token.Category.TheVariants as category
use Rattle.lb_base.specs.declared.token.Tok.{Tok}
use Rattle.lb_base.specs.declared.token.Tok.TheVariants as token
use Rattle.lb_values.specs.declared.cell.Cell.{Cell}
use Rattle.lb_values.specs.declared.cell.RegisterKind.{RegisterKind}
use Rattle.lb_values.specs.declared.cell.RegisterKind.TheVariants as kind
use Rattle.lb_values.specs.declared.meaning.MacroDef.{MacroDef}
use Rattle.lb_values.specs.declared.meaning.Meaning.{Meaning}
use Rattle.lb_values.specs.declared.meaning.Meaning.TheVariants as meaning
use Rattle.lb_values.specs.declared.meaning.Register.TheVariants as register
use Rattle.lb_values.specs.declared.reach.Reach.{Reach}
use Rattle.lb_values.specs.declared.value.Value.{Value}
use Rattle.lb_values.specs.declared.value.Value.TheVariants as value
use Rattle.lb_model_grammar.specs.declared.given.Given.{Given}
use Rattle.lb_model_grammar.specs.declared.given.Given.TheVariants.{Tok as AToken}
use Rattle.lb_model_grammar.specs.declared.given.Want.TheVariants as want
use Rattle.lb_model_grammar.specs.Arguments.{closes, longer, opens}
use Rattle.lb_model_grammar.specs.Scans.{Meant, is_other, is_space}
use Rattle.lb_model_grammar.specs.Scans.Meant.{Open, Ended, Wrong}
use Rattle.lb_model.specs.Configs.{looks_of_meaning}
use Rattle.lb_model.specs.Meanings.{token_meaning}
use Rattle.lb_model.specs.Ranges.{parameters_among}
use Rattle.lb_model_engine.specs.Reads.{code, control, equals, expanded_rest, group_rest, reading, reading_on, taking}
use Rattle.lb_model_nest.specs.Wholes.{Executed, Whole, and_then, change, looking, put, stop}

-- ---- Parameter texts

-- the tokens before the opening brace of a body, with their parameters; and the brace, where it stands behind a parameter character: then it
-- ends the text as its last token, and the body puts it back
pub record ParameterText : Type 0 where
  pub tokens : List Tok
  pub brace : List Tok

abbrev pub is_parameter : Tok → Bool
is_parameter (token.Char category.Parameter code) = true
is_parameter tok = false

-- a token behind a parameter character: the brace, or the next number, of which there are nine
abbrev pub behind_parameter : ℕ → List Tok → Tok → (ℕ → List Tok → Meant ParameterText) → List Given → Meant ParameterText
behind_parameter n toks t more given =
    if opens t then longer toks t (λ ts. Ended (record { tokens = ts; brace = t ∷ [] }) given)
    else (if is_other (49 + n) t && nat_lt n 9 then longer toks (token.Param (suc n)) (more (suc n)) else Wrong TokenMisplaced)

abbrev pub in_text : List Tok → Tok → Meant ParameterText → (List Tok → Meant ParameterText) → List Given → Meant ParameterText
in_text toks t behind more given =
    if opens t then Ended (record { tokens = toks; brace = [] }) given
    else (if closes t then Wrong TokenMisplaced
    else (if is_parameter t then behind else longer toks t more))

-- the parameter text that follows, where there are n parameters so far, and a parameter character stands before or not
abbrev pub parameter_text : Bool → ℕ → List Tok → List Given → Meant ParameterText
parameter_text marked n toks [] = Open want.Plain
parameter_text true n toks (AToken t ∷ given) = behind_parameter n toks t (λ m ts. parameter_text false m ts given) given
parameter_text false n toks (AToken t ∷ given) = in_text toks t (parameter_text true n toks given) (λ ts. parameter_text false n ts given) given
parameter_text marked n toks (g ∷ given) = Wrong Runaway

-- ---- Bodies

-- the parameter that a token names behind a parameter character, one of the first n
abbrev pub parameter_at : ℕ → ℕ → Option Tok
parameter_at n code = if nat_le 49 code && nat_le code (48 + n) then Some (token.Param (code - 48)) else None

abbrev pub parameter_named : ℕ → Tok → Option Tok
parameter_named n (token.Char category.Other code) = parameter_at n code
parameter_named n tok = None

abbrev pub with_token : Option Tok → Option (List Tok) → Option (List Tok)
with_token (Some t) (Some toks) = Some (t ∷ toks)
with_token t toks = None

-- what a parameter character and the token behind it stand for: two parameter characters for one
abbrev pub marked_token : ℕ → Tok → Option Tok
marked_token n t = if is_parameter t then Some t else parameter_named n t

-- a body with the first n parameters, None where a parameter character has another token behind it, or none
abbrev pub body_by : Bool → ℕ → List Tok → Option (List Tok)
body_by true n [] = None
body_by false n [] = Some []
body_by true n (t ∷ toks) = with_token (marked_token n t) (body_by false n toks)
body_by false n (t ∷ toks) = if is_parameter t then body_by true n toks else with_token (Some t) (body_by false n toks)

abbrev pub body_of : ℕ → List Tok → Option (List Tok)
body_of n toks = body_by false n toks

-- what is done with a body
abbrev pub body_to : Option (List Tok) → (List Tok → Whole → Executed) → Whole → Executed
body_to None row w = stop TokenMisplaced w
body_to (Some body) row w = row body w

-- ---- `\def`, `\gdef`, `\edef`, `\xdef`

abbrev pub macro_value : MacroDef → Value
macro_value definition = value.Meaning (meaning.Macro definition)

abbrev pub plain_macro : Bool → List Tok → List Tok → Value
plain_macro long toks body = macro_value (record { pattern = record { long = long; first = None; tokens = toks }; body = body })

-- a body is one token list, of no more than a million tokens
abbrev pub macro_set : Bool → Reach → Cell → ParameterText → List Tok → Whole → Executed
macro_set long reach name text body w =
    if nat_lt 1000000 (length body) then stop DepthLimit w else change reach name (plain_macro long text.tokens body) w

abbrev pub macro_defined : Bool → Reach → Cell → ParameterText → List Tok → Whole → Executed
macro_defined long reach name text toks w =
    body_to (body_of (parameters_among text.tokens) toks) (λ body v. macro_set long reach name text (body ++ text.brace) v) w

-- the body as it stands, or expanded
abbrev pub body_read : Bool → (List Tok → Whole → Executed) → Whole → Executed
body_read false row w = group_rest row w
body_read true row w = expanded_rest row w

-- a control sequence or an active character, its parameter text and its body
unfoldable pub def_row : Bool → Bool → Reach → Whole → Executed
def_row expands long reach w =
    control (λ name v. reading (parameter_text false 0 []) (λ text u. body_read expands (λ toks x. macro_defined long reach name text toks x) u) v) w

-- ---- `\let`, `\futurelet`

-- behind `=`, which may be left out and before which spaces are skipped, one space is skipped
abbrev pub first_given : List Given → Meant Tok
first_given [] = Open want.Plain
first_given (AToken t ∷ given) = Ended t given
first_given (g ∷ given) = Wrong Runaway

abbrev pub behind_equals : List Given → Meant Tok
behind_equals [] = Open want.Plain
behind_equals (AToken t ∷ given) = if is_space t then first_given given else Ended t given
behind_equals (g ∷ given) = Wrong Runaway

abbrev pub let_source : List Given → Meant Tok
let_source [] = Open want.Plain
let_source (AToken t ∷ given) = if is_space t then let_source given else (if is_other 61 t then behind_equals given else Ended t given)
let_source (g ∷ given) = Wrong Runaway

-- a name gets the meaning of a token, or none where that has none
abbrev pub meaning_value : Option Meaning → Value
meaning_value None = value.Absent
meaning_value (Some m) = value.Meaning m

abbrev pub meaning_copied : Reach → Cell → Tok → Whole → Executed
meaning_copied reach name tok w =
    looking (looks_of_meaning tok) (change reach name (meaning_value (token_meaning w.feed.world w.feed.cells.now tok)) w)

unfoldable pub let_row : Reach → Whole → Executed
let_row reach w = control (λ name v. reading_on let_source (λ tok u. meaning_copied reach name tok u) v) w

-- two tokens are put back, and the name gets the meaning of the second
unfoldable pub futurelet_row : Reach → Whole → Executed
futurelet_row reach w =
    control (λ name v. taking (λ first u. taking (λ second x. and_then (put (first ∷ second ∷ []) x) (meaning_copied reach name second)) u) v) w

-- ---- `\chardef`, `\countdef`, `\dimendef`, `\skipdef`, `\toksdef`

-- the name of a register of a kind; that of a box is its number
abbrev pub register_meaning : RegisterKind → ℕ → Meaning
register_meaning kind.Count n = meaning.Register (register.Count n)
register_meaning kind.Dimen n = meaning.Register (register.Dimen n)
register_meaning kind.Skip n = meaning.Register (register.Skip n)
register_meaning kind.Toks n = meaning.Register (register.Toks n)
register_meaning kind.Boxed n = meaning.Number n

unfoldable pub shorthand_row : (ℕ → Meaning) → Reach → Whole → Executed
shorthand_row meant reach w = control (λ name v. equals (λ u. code (λ n x. change reach name (value.Meaning (meant n)) x) u) v) w
