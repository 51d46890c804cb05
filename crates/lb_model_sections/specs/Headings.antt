-- Headings (source2e, file ltsect; classes, file classes.dtx, on the document markup; the lengths are this project's own).
use Rattle.std.specs.Prelude.{◌++◌, ◌&&◌, ◌||◌, Bool, true, false, not, ℕ, ℤ, pos, int_le, List, [], ◌∷◌, codes, Option, Some, None, unwrap_or, if◌then◌else◌}
use Rattle.lb_base.specs.declared.fault.Kind.TheVariants.{BadCode}
use Rattle.lb_base.specs.declared.token.Tok.{Tok}
use Rattle.lb_base.specs.declared.token.Tok.TheVariants as token
use Rattle.lb_values.specs.declared.cell.Cell.TheVariants as cell
use Rattle.lb_values.specs.declared.value.PageStyle.{PageStyle}
use Rattle.lb_values.specs.declared.value.PageStyle.TheVariants as style
use Rattle.lb_values.specs.declared.value.Value.{Value}
use Rattle.lb_model_grammar.specs.Arguments.{substituted}
use Rattle.lb_model_grammar.specs.Printed.{printed}
use Rattle.lb_model.specs.declared.world.World.{World}
use Rattle.lb_model.specs.FontTable.{row}
use Rattle.lb_model.specs.HeldNumbers.{held_of}
use Rattle.lb_model.specs.Kinds.{number_of, page_style_of}
use Rattle.lb_model.specs.Settings.{State, look}
use Rattle.lb_model_counters.specs.Counters.{printer_name, step_counter}
use Rattle.lb_model_counters.specs.Effects.{Effect, answers, refuses, sets}
use Rattle.lb_model_sections.specs.declared.heading.HeadLevel.{HeadLevel}
use Rattle.lb_model_sections.specs.declared.heading.HeadLevel.TheVariants.{Chapter, Section, SubSection, SubSubSection, Paragraph, SubParagraph}
use Rattle.lb_model_sections.specs.declared.heading.HeadTokens.{HeadTokens}
use Rattle.lb_model_sections.specs.declared.heading.HeadWant.{HeadWant}
use Rattle.lb_model_sections.specs.Joined.{looking, looking_behind, seen}
use Rattle.lb_model_sections.specs.Texts.{toks}

-- ---- Levels

-- the levels by their numbers, and their names, which their counters have too
abbrev pub head_levels : List HeadLevel
head_levels = Chapter ∷ Section ∷ SubSection ∷ SubSubSection ∷ Paragraph ∷ SubParagraph ∷ []

abbrev pub type_of : HeadLevel → List ℕ
type_of Chapter = codes "chapter"
type_of Section = codes "section"
type_of SubSection = codes "subsection"
type_of SubSubSection = codes "subsubsection"
type_of Paragraph = codes "paragraph"
type_of SubParagraph = codes "subparagraph"

abbrev pub depth_of : HeadLevel → ℤ
depth_of Chapter = pos 0
depth_of Section = pos 1
depth_of SubSection = pos 2
depth_of SubSubSection = pos 3
depth_of Paragraph = pos 4
depth_of SubParagraph = pos 5

abbrev pub is_chapter : HeadLevel → Bool
is_chapter Chapter = true
is_chapter level = false

-- ---- What a heading puts back

-- a heading: its level, whether it has a star, its short title and its title, and the number that it has, if it has one
pub record Heading : Type 0 where
  pub level : HeadLevel
  pub starred : Bool
  pub short : List Tok
  pub title : List Tok
  pub number : Option (List Tok)

abbrev pub numberline : Option (List Tok) → List Tok
numberline None = []
numberline (Some number) = toks (codes "\\numberline{") ++ number ++ toks (codes "}")

-- a heading without star stands in the contents
abbrev pub contents : Heading → List Tok
contents h =
    if h.starred then []
    else toks (codes "\\addcontentsline{toc}{" ++ type_of h.level ++ codes "}{") ++ numberline h.number ++ h.short ++ toks (codes "}")

abbrev pub with_dot : Option (List Tok) → List Tok
with_dot None = []
with_dot (Some number) = number ++ toks (codes ".") ++ printed (32 ∷ [])

-- and so do the heads of pages, unless their marks are the writer's own
abbrev pub marks_at : HeadLevel → Heading → List Tok
marks_at Chapter h = toks (codes "\\markboth{\\@chapapp\\ ") ++ with_dot h.number ++ h.short ++ toks (codes "}{}")
marks_at Section h = toks (codes "\\markright{") ++ unwrap_or h.number [] ++ toks (codes "\\ ") ++ h.short ++ toks (codes "}")
marks_at level h = []

abbrev pub is_own : PageStyle → Bool
is_own style.MyHeadings = true
is_own s = false

abbrev pub marks : PageStyle → Heading → List Tok
marks s h = if h.starred || is_own s then [] else marks_at h.level h

-- the number as it stands in the text
abbrev pub chapter_line : Option (List Tok) → List Tok
chapter_line None = []
chapter_line (Some number) = toks (codes "\\@size8 \\@chapapp\\ \\thechapter\\par\\vskip20pt\\relax")

abbrev pub number_before : Heading → List Tok
number_before h = elim h.number [ None ↦ [] | Some number ↦ token.Word (printer_name (type_of h.level)) ∷ token.Word (codes "quad") ∷ [] ]

abbrev pub chapter_tokens : PageStyle → Heading → List Tok
chapter_tokens s h =
    toks (codes "\\clearpage\\thispagestyle{plain}") ++ contents h ++ marks s h
    ++ toks (codes "\\hbox{}\\vskip50pt\\relax{\\parindent0pt\\relax\\bfseries") ++ chapter_line h.number
    ++ toks (codes "\\@size9 ") ++ h.title ++ toks (codes "\\par}\\penalty10000\\vskip40pt\\relax\\@plainnext")

-- with the size of its font, and the glue before and behind it
abbrev pub section_tokens : List ℕ → List ℕ → List ℕ → PageStyle → Heading → List Tok
section_tokens size before after s h =
    toks (codes "\\par\\penalty-300\\vskip" ++ before ++ codes "\\relax") ++ contents h ++ marks s h
    ++ toks (codes "{\\parindent0pt\\relax\\@size" ++ size ++ codes " \\bfseries") ++ number_before h ++ h.title
    ++ toks (codes "\\par}\\penalty10000\\vskip" ++ after ++ codes "\\relax\\@plainnext")

abbrev pub run_in_tokens : Heading → List Tok
run_in_tokens h =
    toks (codes "\\par\\penalty-300\\vskip14pt\\relax") ++ contents h ++ toks (codes "\\noindent{\\bfseries") ++ number_before h ++ h.title
    ++ toks (codes "}\\hskip10pt\\relax")

-- sections of three levels stand on lines of their own
abbrev pub size_at : HeadLevel → List ℕ
size_at Section = codes "6"
size_at SubSection = codes "5"
size_at level = codes "4"

abbrev pub before_at : HeadLevel → List ℕ
before_at Section = codes "15pt"
before_at level = codes "14pt"

abbrev pub after_at : HeadLevel → List ℕ
after_at Section = codes "10pt"
after_at level = codes "6pt"

abbrev pub section_at : HeadLevel → PageStyle → Heading → List Tok
section_at level s h = section_tokens (size_at level) (before_at level) (after_at level) s h

abbrev pub tokens_at : HeadLevel → PageStyle → Heading → List Tok
tokens_at Chapter s h = chapter_tokens s h
tokens_at Section s h = section_at Section s h
tokens_at SubSection s h = section_at SubSection s h
tokens_at SubSubSection s h = section_at SubSubSection s h
tokens_at level s h = run_in_tokens h

-- ---- `\@head`

-- the number stands as the first parameter, and is put in its place as an argument of a macro is
abbrev pub number_stands : List Tok
number_stands = token.Param 1 ∷ []

abbrev pub with_number : List Tok → List Tok → List Tok
with_number number tokens = substituted (number ∷ []) tokens

abbrev pub number_if : Bool → Option (List Tok)
number_if true = Some number_stands
number_if false = None

abbrev pub heading_of : HeadLevel → HeadWant → Bool → Heading
heading_of level want numbered =
    record { level = level; starred = want.star; short = unwrap_or want.short want.title; title = want.title; number = number_if numbered }

abbrev pub page_style_in : World → State → PageStyle
page_style_in w s = unwrap_or (page_style_of (look w s cell.PageStyle)) style.Plain

-- it is numbered where it has no star and is not too deep, a chapter in the main matter alone
abbrev pub is_one : ℤ → Bool
is_one n = int_le (pos 1) n && int_le n (pos 1)

abbrev pub is_numbered : HeadLevel → Bool → ℤ → ℤ → Bool
is_numbered level starred depth matter = not starred && (int_le (depth_of level) depth && (not (is_chapter level) || is_one matter))

abbrev pub depth_counter : List ℕ
depth_counter = codes "secnumdepth"

abbrev pub is_numbered_in : HeadLevel → Bool → World → State → Bool
is_numbered_in level starred w s =
    is_numbered level starred (number_of (look w s (cell.Counter depth_counter))) (number_of (look w s cell.Matter))

abbrev pub counter_if : Bool → HeadLevel → Option (List ℕ)
counter_if true level = Some (type_of level)
counter_if false level = None

abbrev pub heading_tokens : Bool → HeadLevel → HeadWant → PageStyle → HeadTokens
heading_tokens numbered level want s =
    record { tokens = tokens_at level s (heading_of level want numbered); counter = counter_if numbered level }

-- its counter is stepped, and the style of pages is looked at behind that
abbrev pub numbered_heading : HeadLevel → HeadWant → World → State → Effect HeadTokens
numbered_heading level want w s =
    seen (λ done. heading_tokens true level want (page_style_in w s)) (looking_behind (step_counter (type_of level) (pos 1) true w s) (cell.PageStyle ∷ []))

abbrev pub plain_heading : HeadLevel → HeadWant → World → State → Effect HeadTokens
plain_heading level want w s = answers (cell.PageStyle ∷ []) (heading_tokens false level want (page_style_in w s))

abbrev pub heading_if : Bool → HeadLevel → HeadWant → World → State → Effect HeadTokens
heading_if true level want w s = numbered_heading level want w s
heading_if false level want w s = plain_heading level want w s

abbrev pub heading_in : HeadLevel → HeadWant → World → State → Effect HeadTokens
heading_in level want w s =
    looking (cell.Counter depth_counter ∷ cell.Matter ∷ []) (heading_if (is_numbered_in level want.star w s) level want w s)

abbrev pub heading_at : Option HeadLevel → HeadWant → World → State → Effect HeadTokens
heading_at (Some level) want w s = heading_in level want w s
heading_at None want w s = refuses [] BadCode

unfoldable pub heading : HeadWant → World → State → Effect HeadTokens
heading want w s = heading_at (row head_levels want.n) want w s

-- ---- `\@matter`

abbrev pub matter_set : Option Value → Effect Unit
matter_set (Some v) = sets [] ((cell.Matter, v) ∷ [])
matter_set None = refuses [] BadCode

-- front matter, main matter and back matter by their numbers
unfoldable pub matter : ℤ → World → State → Effect Unit
matter n w s = matter_set (held_of cell.Matter n)
