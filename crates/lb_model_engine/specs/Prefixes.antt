-- Assignments, and the prefixes before them (TeXbook, chapter 24; tex.web, part 49, sections 1208 to 1218).
use Rattle.std.specs.Prelude.{Bool, true, false, ℕ, zero, suc, Option, Some, None}
use Rattle.lb_base.specs.declared.fault.Kind.TheVariants.{StepLimit, TokenMisplaced}
use Rattle.lb_rows.specs.declared.command.Command.{Command}
use Rattle.lb_rows.specs.declared.command.Command.TheVariants as command
use Rattle.lb_values.specs.Registers.{register_cell}
use Rattle.lb_values.specs.declared.cell.Cell.TheVariants as cell
use Rattle.lb_values.specs.declared.cell.RegisterKind.TheVariants as kind
use Rattle.lb_values.specs.declared.meaning.Meaning.{Meaning}
use Rattle.lb_values.specs.declared.meaning.Meaning.TheVariants as meaning
use Rattle.lb_values.specs.declared.reach.Reach.{Reach}
use Rattle.lb_values.specs.declared.reach.Reach.TheVariants.{Local, Global}
use Rattle.lb_model.specs.declared.arith.Arith.TheVariants.{Advance, Multiply, Divide}
use Rattle.lb_model_engine.specs.Boxes.{box_size, setbox, with_depth, with_height, with_width}
use Rattle.lb_model_engine.specs.Definitions.{def_row, futurelet_row, let_row, register_meaning, shorthand_row}
use Rattle.lb_model_engine.specs.Reads.{past_spaces}
use Rattle.lb_model_engine.specs.Registers.{arithmetic_row, picked_row, variable_row}
use Rattle.lb_model_nest.specs.Wholes.{Executed, Whole, stop}

-- ---- Assignments

-- the assignment that a command is, with the prefixes before it
abbrev pub command_assignment : Command → Bool → Reach → Option (Whole → Executed)
command_assignment command.Def long reach = Some (def_row false long reach)
command_assignment command.GDef long reach = Some (def_row false long Global)
command_assignment command.EDef long reach = Some (def_row true long reach)
command_assignment command.XDef long reach = Some (def_row true long Global)
command_assignment command.Let long reach = Some (let_row reach)
command_assignment command.FutureLet long reach = Some (futurelet_row reach)
command_assignment command.CharDef long reach = Some (shorthand_row meaning.Number reach)
command_assignment command.CountDef long reach = Some (shorthand_row (register_meaning kind.Count) reach)
command_assignment command.DimenDef long reach = Some (shorthand_row (register_meaning kind.Dimen) reach)
command_assignment command.SkipDef long reach = Some (shorthand_row (register_meaning kind.Skip) reach)
command_assignment command.ToksDef long reach = Some (shorthand_row (register_meaning kind.Toks) reach)
command_assignment command.Count long reach = Some (picked_row cell.Count reach)
command_assignment command.Dimen long reach = Some (picked_row cell.Dimen reach)
command_assignment command.Skip long reach = Some (picked_row cell.Skip reach)
command_assignment command.Toks long reach = Some (picked_row cell.Toks reach)
command_assignment command.CatCode long reach = Some (picked_row cell.Cat reach)
command_assignment command.LcCode long reach = Some (picked_row cell.Lc reach)
command_assignment command.UcCode long reach = Some (picked_row cell.Uc reach)
command_assignment command.SfCode long reach = Some (picked_row cell.Sf reach)
command_assignment command.Advance long reach = Some (arithmetic_row Advance reach)
command_assignment command.Multiply long reach = Some (arithmetic_row Multiply reach)
command_assignment command.Divide long reach = Some (arithmetic_row Divide reach)
command_assignment command.SetBox long reach = Some (setbox reach)
command_assignment command.Wd long reach = Some (box_size with_width reach)
command_assignment command.Ht long reach = Some (box_size with_height reach)
command_assignment command.Dp long reach = Some (box_size with_depth reach)
command_assignment other long reach = None

abbrev pub assignment : Option Meaning → Bool → Reach → Option (Whole → Executed)
assignment (Some (meaning.Row c)) long reach = command_assignment c long reach
assignment (Some (meaning.Register r)) long reach = Some (variable_row (register_cell r) reach)
assignment m long reach = None

-- an assignment, or a token that may not stand behind a prefix
abbrev pub assignment_or : Option (Whole → Executed) → Whole → Executed
assignment_or (Some row) w = row w
assignment_or None w = stop TokenMisplaced w

-- ---- `\long` and `\global`

-- what stands behind prefixes: one more, or an assignment
abbrev pub prefixed_by : Option Meaning → (Bool → Reach → Whole → Executed) → Bool → Reach → Whole → Executed
prefixed_by (Some (meaning.Row command.Long)) more long reach w = more true reach w
prefixed_by (Some (meaning.Row command.Global)) more long reach w = more long Global w
prefixed_by m more long reach w = assignment_or (assignment m long reach) w

-- spaces are skipped; each token takes a step, so the steps are enough
abbrev pub prefixed_in : ℕ → Bool → Reach → Whole → Executed
prefixed_in zero long reach w = stop StepLimit w
prefixed_in (suc turns) long reach w = past_spaces (λ tok m v. prefixed_by m (λ l r u. prefixed_in turns l r u) long reach v) w

abbrev pub prefixed : Bool → Reach → Whole → Executed
prefixed long reach w = prefixed_in (suc w.feed.left) long reach w

unfoldable pub long_row : Whole → Executed
long_row w = prefixed true Local w

unfoldable pub global_row : Whole → Executed
global_row w = prefixed false Global w
