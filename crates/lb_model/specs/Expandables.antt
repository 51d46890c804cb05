-- The commands that are expanded (TeXbook, chapter 20; tex.web, part 25), and what tokens are to text that is skipped.
use Rattle.std.specs.Prelude.{Option, Some, None}
use Rattle.lb_rows.specs.declared.command.Command.TheVariants as command
use Rattle.lb_rows.specs.declared.command.Command.{Command}
use Rattle.lb_values.specs.declared.meaning.Meaning.{Meaning}
use Rattle.lb_values.specs.declared.meaning.Meaning.TheVariants as meaning
use Rattle.lb_values.specs.declared.value.Form.TheVariants as form
use Rattle.lb_model_grammar.specs.declared.condition.Mark.{Mark}
use Rattle.lb_model_grammar.specs.declared.condition.Mark.TheVariants.{Opens, Stops, Passes}
use Rattle.lb_model_grammar.specs.declared.condition.Stopper.TheVariants.{Or, Else, Fi}
use Rattle.lb_model.specs.declared.expandable.Expandable.{Expandable}
use Rattle.lb_model.specs.declared.expandable.Expandable.TheVariants.{ExpandAfter, NoExpand, CsName, String, Number, RomanNumeral, The, JobName, Test, Part, Input, EndInput, Print, ThePage}
use Rattle.lb_model.specs.declared.expandable.TestKind.TheVariants as test
use Rattle.lb_model.specs.declared.open.Compared.TheVariants.{Numbers, Dimensions}
use Rattle.lb_model.specs.declared.open.Pairing.TheVariants.{Codes, Categories}

abbrev pub expandable : Command → Option Expandable
expandable command.ExpandAfter = Some ExpandAfter
expandable command.NoExpand = Some NoExpand
expandable command.CsName = Some CsName
expandable command.String = Some String
expandable command.Number = Some Number
expandable command.RomanNumeral = Some RomanNumeral
expandable command.The = Some The
expandable command.JobName = Some JobName
expandable command.If = Some (Test (test.Codes Codes))
expandable command.IfCat = Some (Test (test.Codes Categories))
expandable command.IfX = Some (Test test.Meanings)
expandable command.IfNum = Some (Test (test.Compare Numbers))
expandable command.IfDim = Some (Test (test.Compare Dimensions))
expandable command.IfOdd = Some (Test test.Odd)
expandable command.IfCase = Some (Test test.Case)
expandable command.IfVMode = Some (Test test.Vertical)
expandable command.IfHMode = Some (Test test.Horizontal)
expandable command.IfTrue = Some (Test test.True)
expandable command.IfFalse = Some (Test test.False)
expandable command.Or = Some (Part Or)
expandable command.Else = Some (Part Else)
expandable command.Fi = Some (Part Fi)
expandable command.Input = Some Input
expandable command.EndInput = Some EndInput
expandable command.Arabic = Some (Print form.Arabic)
expandable command.LowerRoman = Some (Print form.LowerRoman)
expandable command.UpperRoman = Some (Print form.UpperRoman)
expandable command.LowerAlph = Some (Print form.LowerAlph)
expandable command.UpperAlph = Some (Print form.UpperAlph)
expandable command.ThePage = Some ThePage
expandable other = None

-- ---- Text that is skipped

-- what a token is to text that is skipped
abbrev pub mark_as : Option Expandable → Mark
mark_as (Some (Test kind)) = Opens
mark_as (Some (Part stopper)) = Stops stopper
mark_as row = Passes

abbrev pub mark_of : Option Meaning → Mark
mark_of (Some (meaning.Row row)) = mark_as (expandable row)
mark_of meaning = Passes
