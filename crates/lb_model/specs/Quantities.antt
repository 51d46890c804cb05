-- Internal quantities (TeXbook, chapter 24): registers, parameters, codes, sizes of boxes and counters.
use Rattle.std.specs.Prelude.{ℕ, ℤ, pos, List, [], ◌∷◌, Option, Some, unwrap_or}
use Rattle.std.specs.Option.{option_map_or}
use Rattle.lb_base.specs.declared.node.Boxed.{Boxed}
use Rattle.lb_base.specs.declared.token.Tok.{Tok}
use Rattle.lb_rows.specs.declared.command.Command.{Command}
use Rattle.lb_rows.specs.declared.command.Command.TheVariants as command
use Rattle.lb_rows.specs.declared.parameter.Parameter.{Parameter}
use Rattle.lb_rows.specs.declared.parameter.ParameterKind.{ParameterKind}
use Rattle.lb_rows.specs.declared.parameter.ParameterKind.TheVariants as parameter
use Rattle.lb_rows.specs.Parameters.{parameter_kind}
use Rattle.lb_values.specs.Registers.{register_cell}
use Rattle.lb_values.specs.declared.cell.Cell.{Cell}
use Rattle.lb_values.specs.declared.cell.Cell.TheVariants as cell
use Rattle.lb_values.specs.declared.meaning.Meaning.{Meaning}
use Rattle.lb_values.specs.declared.meaning.Meaning.TheVariants as meaning
use Rattle.lb_values.specs.declared.meaning.Register.{Register as Registers}
use Rattle.lb_values.specs.declared.meaning.Register.TheVariants as register
use Rattle.lb_model.specs.declared.world.World.{World}
use Rattle.lb_model.specs.Kinds.{boxed_of, category_of, code_of, dimension_of, glue_of, number_of, optional_number, space_factor_of, tokens_of}
use Rattle.lb_model.specs.Settings.{State, look}
use Rattle.lb_model_grammar.specs.declared.given.Quantity.{Quantity}
use Rattle.lb_model_grammar.specs.declared.given.Quantity.TheVariants.{NotOne, Number, Dimen, Skip}
use Rattle.lb_model.specs.declared.open.Indexed.{Indexed}
use Rattle.lb_model.specs.declared.open.Indexed.TheVariants as indexed
use Rattle.lb_values.specs.Categories.{category_code}

-- what begins with a token: a quantity, the tokens of a register, something that a number picks, or a counter's value
pub data Internal : Type 0 where
  Known : Quantity → Internal
  Tokens : List Tok → Internal
  Picked : Indexed → Internal
  OfCounter : Internal

abbrev pub parameter_in : World → State → Parameter → ParameterKind → Quantity
parameter_in w s p parameter.Number = Number (number_of (look w s (cell.Par p)))
parameter_in w s p parameter.Dimension = Dimen (dimension_of (look w s (cell.Par p)))
parameter_in w s p parameter.Glue = Skip (glue_of (look w s (cell.Par p)))

abbrev pub register_in : World → State → Registers → Internal
register_in w s (register.Count n) = Known (Number (number_of (look w s (cell.Count n))))
register_in w s (register.Dimen n) = Known (Dimen (dimension_of (look w s (cell.Dimen n))))
register_in w s (register.Skip n) = Known (Skip (glue_of (look w s (cell.Skip n))))
register_in w s (register.Toks n) = Tokens (unwrap_or (tokens_of (look w s (cell.Toks n))) [])
register_in w s (register.Par p) = Known (parameter_in w s p (parameter_kind p))

abbrev pub row_quantity : Command → Internal
row_quantity command.Count = Picked indexed.Count
row_quantity command.Dimen = Picked indexed.Dimen
row_quantity command.Skip = Picked indexed.Skip
row_quantity command.Toks = Picked indexed.Toks
row_quantity command.Wd = Picked indexed.Width
row_quantity command.Ht = Picked indexed.Height
row_quantity command.Dp = Picked indexed.Depth
row_quantity command.CatCode = Picked indexed.Category
row_quantity command.LcCode = Picked indexed.LowerCase
row_quantity command.UcCode = Picked indexed.UpperCase
row_quantity command.SfCode = Picked indexed.SpaceFactor
row_quantity command.Value = OfCounter
row_quantity other = Known NotOne

-- what begins with a token of this meaning
abbrev pub internal_in : World → State → Option Meaning → Internal
internal_in w s (Some (meaning.Register r)) = register_in w s r
internal_in w s (Some (meaning.Number code)) = Known (Number (pos code))
internal_in w s (Some (meaning.Row row)) = row_quantity row
internal_in w s meaning = Known NotOne

-- a size of a box, 0 where there is none
abbrev pub size_in : World → State → (Boxed → ℤ) → ℕ → Quantity
size_in w s size n = Dimen (option_map_or size (boxed_of (look w s (cell.Boxed n))) (pos 0))

-- what a number, which is 0 to 255, picks
abbrev pub picked : World → State → Indexed → ℕ → Internal
picked w s indexed.Count n = register_in w s (register.Count n)
picked w s indexed.Dimen n = register_in w s (register.Dimen n)
picked w s indexed.Skip n = register_in w s (register.Skip n)
picked w s indexed.Toks n = register_in w s (register.Toks n)
picked w s indexed.Width n = Known (size_in w s (λ b. b.width) n)
picked w s indexed.Height n = Known (size_in w s (λ b. b.height) n)
picked w s indexed.Depth n = Known (size_in w s (λ b. b.depth) n)
picked w s indexed.Category n = Known (Number (pos (category_code (category_of (look w s (cell.Cat n))))))
picked w s indexed.LowerCase n = Known (Number (pos (code_of (look w s (cell.Lc n)))))
picked w s indexed.UpperCase n = Known (Number (pos (code_of (look w s (cell.Uc n)))))
picked w s indexed.SpaceFactor n = Known (Number (space_factor_of (look w s (cell.Sf n))))

-- the number of a counter, if there is one
abbrev pub counter_in : World → State → List ℕ → Option ℤ
counter_in w s name = optional_number (look w s (cell.Counter name))

-- ---- What is looked at for them

abbrev pub looks_internal : Option Meaning → List Cell
looks_internal (Some (meaning.Register r)) = register_cell r ∷ []
looks_internal meaning = []

abbrev pub indexed_cell : Indexed → ℕ → Cell
indexed_cell indexed.Count n = cell.Count n
indexed_cell indexed.Dimen n = cell.Dimen n
indexed_cell indexed.Skip n = cell.Skip n
indexed_cell indexed.Toks n = cell.Toks n
indexed_cell indexed.Width n = cell.Boxed n
indexed_cell indexed.Height n = cell.Boxed n
indexed_cell indexed.Depth n = cell.Boxed n
indexed_cell indexed.Category n = cell.Cat n
indexed_cell indexed.LowerCase n = cell.Lc n
indexed_cell indexed.UpperCase n = cell.Uc n
indexed_cell indexed.SpaceFactor n = cell.Sf n
