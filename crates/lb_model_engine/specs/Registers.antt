-- Registers, parameters and codes, and arithmetic on them (TeXbook, chapter 24; tex.web, part 49, sections 1226 to 1240).
use Rattle.std.specs.Prelude.{ℕ, List, [], ◌∷◌, codes, Option, Some, None, unwrap_or, if◌then◌else◌}
use Rattle.lb_base.specs.declared.fault.Kind.TheVariants.{BadCode, Overflow, TokenMisplaced}
use Rattle.lb_base.specs.declared.token.Category.TheVariants as category
use Rattle.lb_base.specs.declared.token.Tok.{Tok}
use Rattle.lb_rows.specs.declared.command.Command.{Command}
use Rattle.lb_rows.specs.declared.command.Command.TheVariants as command
use Rattle.lb_rows.specs.declared.parameter.ParameterKind.{ParameterKind}
use Rattle.lb_rows.specs.declared.parameter.ParameterKind.TheVariants as parameter
use Rattle.lb_values.specs.Registers.{register_cell}
use Rattle.lb_values.specs.declared.cell.Cell.{Cell}
use Rattle.lb_values.specs.declared.cell.Cell.TheVariants as cell
use Rattle.lb_values.specs.declared.meaning.Meaning.{Meaning}
use Rattle.lb_values.specs.declared.meaning.Meaning.TheVariants as meaning
use Rattle.lb_values.specs.declared.meaning.Register.TheVariants as register
use Rattle.lb_values.specs.declared.reach.Reach.{Reach}
use Rattle.lb_values.specs.declared.value.Value.{Value}
use Rattle.lb_values.specs.declared.value.Value.TheVariants as value
use Rattle.lb_model_grammar.specs.declared.given.Quantity.{Quantity}
use Rattle.lb_model_grammar.specs.declared.given.Quantity.TheVariants as quantity
use Rattle.lb_model.specs.declared.arith.Arith.{Arith}
use Rattle.lb_model.specs.declared.arith.Arith.TheVariants.{Advance}
use Rattle.lb_model.specs.Assignments.{arithmetic_at, arithmetic_kind, registered, takes_dimension, takes_glue, takes_number}
use Rattle.lb_model.specs.Kinds.{tokens_of}
use Rattle.lb_model_engine.specs.Reads.{code, dimension, equals, glue, group_rest, keyword, next, number, past_spaces}
use Rattle.lb_model_nest.specs.Wholes.{Executed, Whole, change_or, looking, stop, tells}

-- ---- Values

-- the tokens of a register, none where it holds none
abbrev pub register_tokens : ℕ → (List Tok → Whole → Executed) → Whole → Executed
register_tokens n row w = looking (cell.Toks n ∷ []) (row (unwrap_or (tokens_of (tells w (cell.Toks n))) []) w)

-- a list of tokens: the rest of a group, behind a brace or what means one; or those of a register
abbrev pub tokens_to : Option Meaning → (List Tok → Whole → Executed) → Whole → Executed
tokens_to (Some (meaning.Char category.BeginGroup code)) row w = group_rest row w
tokens_to (Some (meaning.Register (register.Toks n))) row w = register_tokens n row w
tokens_to (Some (meaning.Row command.Toks)) row w = code (λ n v. register_tokens n row v) w
tokens_to m row w = stop TokenMisplaced w

abbrev pub tokens : (List Tok → Whole → Executed) → Whole → Executed
tokens row w = past_spaces (λ tok m v. tokens_to m row v) w

-- a value of the kind of a register, a parameter or a code
abbrev pub value_of_kind : Cell → (Value → Whole → Executed) → Whole → Executed
value_of_kind c row w =
    if takes_number c then number (λ n v. row (value.Number n) v) w
    else (if takes_dimension c then dimension (λ n v. row (value.Dimen n) v) w
    else (if takes_glue c then glue (λ g v. row (value.Glue g) v) w
    else tokens (λ toks v. row (value.Tokens toks) v) w))

-- ---- Assignments

-- a register, a parameter or a code that is known is set to a value of its kind
unfoldable pub variable_row : Cell → Reach → Whole → Executed
variable_row c reach w = equals (λ v. value_of_kind c (λ x u. change_or BadCode reach c (registered c x) u) v) w

-- `\count`, `\dimen`, `\skip`, `\toks`, `\catcode`, `\lccode`, `\uccode`, `\sfcode`: one that a number picks
unfoldable pub picked_row : (ℕ → Cell) → Reach → Whole → Executed
picked_row c reach w = code (λ n v. variable_row (c n) reach v) w

-- ---- `\advance`, `\multiply`, `\divide`

-- the register or the parameter that begins with a token of this meaning: it holds a number, a dimension or glue
abbrev pub operand_at : Option ParameterKind → Cell → (ParameterKind → Cell → Whole → Executed) → Whole → Executed
operand_at (Some kind) c row w = row kind c w
operand_at None c row w = stop TokenMisplaced w

abbrev pub operand_of_row : Command → (ParameterKind → Cell → Whole → Executed) → Whole → Executed
operand_of_row command.Count row w = code (λ n v. row parameter.Number (cell.Count n) v) w
operand_of_row command.Dimen row w = code (λ n v. row parameter.Dimension (cell.Dimen n) v) w
operand_of_row command.Skip row w = code (λ n v. row parameter.Glue (cell.Skip n) v) w
operand_of_row other row w = stop TokenMisplaced w

abbrev pub operand_to : Option Meaning → (ParameterKind → Cell → Whole → Executed) → Whole → Executed
operand_to (Some (meaning.Register r)) row w = operand_at (arithmetic_kind (register_cell r)) (register_cell r) row w
operand_to (Some (meaning.Row c)) row w = operand_of_row c row w
operand_to m row w = stop TokenMisplaced w

-- what it is advanced by is of its kind, and else a number
abbrev pub by_value : Arith → ParameterKind → (Quantity → Whole → Executed) → Whole → Executed
by_value Advance parameter.Dimension row w = dimension (λ n v. row (quantity.Dimen n) v) w
by_value Advance parameter.Glue row w = glue (λ g v. row (quantity.Skip g) v) w
by_value op kind row w = number (λ n v. row (quantity.Number n) v) w

abbrev pub worked_out : Arith → Reach → Cell → Quantity → Whole → Executed
worked_out op reach c by w = looking (c ∷ []) (change_or Overflow reach c (arithmetic_at op c (tells w c) by) w)

-- `by` may be left out
unfoldable pub arithmetic_row : Arith → Reach → Whole → Executed
arithmetic_row op reach w =
    next (λ tok m v. operand_to m (λ kind c u. keyword (codes "by") (λ found x. by_value op kind (λ by y. worked_out op reach c by y) x) u) v) w
