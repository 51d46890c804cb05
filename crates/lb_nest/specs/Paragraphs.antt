-- What the beginning and the end of a paragraph read.
use Rattle.std.specs.Prelude.{Bool, ℤ}
use Rattle.lb_rows.specs.declared.parameter.Parameter.TheVariants.{ParIndent, ParSkip}
use Rattle.lb_values.specs.declared.cell.Cell.TheVariants.{Par}
use Rattle.lb_model.specs.Kinds.{dimension_of, glue_of}
use Rattle.lb_model_nest.specs.Paragraphs.{paragraph_opened, skip_added}
use Rattle.lb_model_nest.specs.Wholes.{Executed, Whole, and_then, on, tells}
use Rattle.lb_nest.specs.declared.paragraphs.Beginning.{Beginning}

-- the glue before a paragraph, and the width of its indent
abbrev pub beginning : Whole → Beginning
beginning w = record { skip = glue_of (tells w (Par ParSkip)); indent = dimension_of (tells w (Par ParIndent)) }

-- a paragraph opens with an indent of this width, or without
abbrev pub opening : Bool → ℤ → Whole → Executed
opening indent width w = on (paragraph_opened indent width w)

-- a paragraph begins by these lengths
abbrev pub begun_by : Bool → Beginning → Whole → Executed
begun_by indent b w = and_then (skip_added b.skip w) (opening indent b.indent)
