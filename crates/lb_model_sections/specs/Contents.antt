-- The lines of a table of contents (source2e, file ltsect; classes, file classes.dtx, on `\l@chapter` and its like; the lengths are this project's
-- own).
use Rattle.std.specs.Prelude.{◌++◌, ℕ, ℤ, pos, int_lt, nat_eq, List, [], ◌∷◌, codes, map, Option, Some, None, if◌then◌else◌}
use Rattle.std.specs.Cmp.Lexicographic.{pointwise}
use Rattle.std.specs.Map.{lookup}
use Rattle.lb_base.specs.declared.token.Tok.{Tok}
use Rattle.lb_values.specs.declared.cell.Cell.TheVariants as cell
use Rattle.lb_model.specs.declared.world.World.{World}
use Rattle.lb_model.specs.Kinds.{number_of}
use Rattle.lb_model.specs.Settings.{State, look}
use Rattle.lb_model_counters.specs.Effects.{Effect, answers}
use Rattle.lb_model_sections.specs.declared.heading.HeadLevel.{HeadLevel}
use Rattle.lb_model_sections.specs.declared.heading.HeadLevel.TheVariants.{Chapter, Section, SubSection, SubSubSection, Paragraph, SubParagraph}
use Rattle.lb_model_sections.specs.Headings.{depth_of, head_levels, type_of}
use Rattle.lb_model_sections.specs.Texts.{toks}

abbrev pub levels : List (List ℕ × HeadLevel)
levels = map (λ level. (type_of level, level)) head_levels

-- what is no heading is at level 9
abbrev pub level_of : List ℕ → Option HeadLevel
level_of kind = lookup (pointwise nat_eq kind) levels

abbrev pub contents_depth : Option HeadLevel → ℤ
contents_depth (Some level) = depth_of level
contents_depth None = pos 9

abbrev pub contents_indent : Option HeadLevel → List ℕ
contents_indent (Some Section) = codes "15pt"
contents_indent (Some SubSection) = codes "38pt"
contents_indent (Some SubSubSection) = codes "70pt"
contents_indent (Some Paragraph) = codes "100pt"
contents_indent (Some SubParagraph) = codes "120pt"
contents_indent level = codes "0pt"

-- a chapter's line is bold, with a space before it
abbrev pub space_above : Option HeadLevel → List Tok
space_above (Some Chapter) = toks (codes "\\vskip10pt\\relax")
space_above level = []

abbrev pub bold_at : Option HeadLevel → List Tok
bold_at (Some Chapter) = toks (codes "\\bfseries")
bold_at level = []

abbrev pub contents_line_tokens : Option HeadLevel → List Tok → List Tok → List Tok
contents_line_tokens level title page =
    toks (codes "\\par") ++ space_above level
    ++ toks (codes "{\\parindent0pt\\relax\\leftskip" ++ contents_indent level ++ codes "\\relax") ++ bold_at level ++ title
    ++ toks (codes "\\nobreak\\hfil") ++ page ++ toks (codes "\\parfillskip0pt\\relax\\par}")

abbrev pub toc_counter : List ℕ
toc_counter = codes "tocdepth"

-- a line that is too deep is none
abbrev pub contents_line_at : ℤ → Option HeadLevel → List Tok → List Tok → List Tok
contents_line_at depth level title page = if int_lt depth (contents_depth level) then [] else contents_line_tokens level title page

-- `\contentsline`
unfoldable pub contents_line : List ℕ → List Tok → List Tok → World → State → Effect (List Tok)
contents_line kind title page w s =
    answers (cell.Counter toc_counter ∷ []) (contents_line_at (number_of (look w s (cell.Counter toc_counter))) (level_of kind) title page)
