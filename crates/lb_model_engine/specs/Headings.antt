-- Headings, and the lines of a table of contents (source2e, file ltsect; the lengths are this project's own).
use Rattle.std.specs.Prelude.{◌++◌, ◌&&◌, ◌||◌, Bool, true, false, not, ℕ, zero, suc, ℤ, pos, int_le, int_lt, nat_eq, List, [], ◌∷◌, codes, map, Option, Some, None, unwrap_or, if◌then◌else◌}
use Rattle.std.specs.Cmp.Lexicographic.{pointwise}
use Rattle.std.specs.Map.{lookup}
use Rattle.lb_base.specs.declared.fault.Kind.TheVariants.{BadCode}
use Rattle.lb_base.specs.declared.token.Tok.{Tok}
use Rattle.lb_base.specs.declared.token.Tok.TheVariants as token
use Rattle.lb_values.specs.declared.cell.Cell.TheVariants as cell
use Rattle.lb_values.specs.declared.value.PageStyle.{PageStyle}
use Rattle.lb_values.specs.declared.value.PageStyle.TheVariants as style
use Rattle.lb_model_grammar.specs.declared.given.Given.{Given}
use Rattle.lb_model_grammar.specs.declared.given.Given.TheVariants.{Tok as AToken}
use Rattle.lb_model_grammar.specs.declared.given.Want.TheVariants as want
use Rattle.lb_model_grammar.specs.Arguments.{group, opens}
use Rattle.lb_model_grammar.specs.Printed.{printed}
use Rattle.lb_model_grammar.specs.Scans.{Meant}
use Rattle.lb_model_grammar.specs.Scans.Meant.{Open, Ended}
use Rattle.lb_model.specs.FontTable.{row}
use Rattle.lb_model.specs.Kinds.{number_of, page_style_of}
use Rattle.lb_model_counters.specs.Counters.{printer_name, step_counter}
use Rattle.lb_model_nest.specs.declared.display.HeadLevel.{HeadLevel}
use Rattle.lb_model_nest.specs.declared.display.HeadLevel.TheVariants.{Chapter, Section, SubSection, SubSubSection, Paragraph, SubParagraph}
use Rattle.lb_model_engine.specs.Counting.{effected, label_set}
use Rattle.lb_model_engine.specs.Lists.{toks}
use Rattle.lb_model_engine.specs.Reads.{argument, bracket, characters, number, reading, some_meant, star}
use Rattle.lb_model_engine.specs.Texts.{expanded_text}
use Rattle.lb_model_nest.specs.Wholes.{Executed, Whole, and_then, looking, on, put, stop, tells}

-- ---- `\@head`

-- the levels by their numbers, and their names, which their counters have too
abbrev pub head_levels : List HeadLevel
head_levels = Chapter ∷ Section ∷ SubSection ∷ SubSubSection ∷ Paragraph ∷ SubParagraph ∷ []

abbrev pub type_of : HeadLevel → List ℕ
type_of Chapter = codes "chapter"
type_of Section = codes "section"
type_of SubSection = codes "subsection"
type_of SubSubSection = codes "subsubsection"
type_of Paragraph = codes "paragraph"
type_of SubParagraph = codes "subparagraph"

abbrev pub depth_of : HeadLevel → ℤ
depth_of Chapter = pos 0
depth_of Section = pos 1
depth_of SubSection = pos 2
depth_of SubSubSection = pos 3
depth_of Paragraph = pos 4
depth_of SubParagraph = pos 5

abbrev pub is_chapter : HeadLevel → Bool
is_chapter Chapter = true
is_chapter level = false

-- a heading: its level, whether it has a star, its short title and its title, and the number that it has, if it has one
pub record Heading : Type 0 where
  pub level : HeadLevel
  pub starred : Bool
  pub short : List Tok
  pub title : List Tok
  pub number : Option (List Tok)

abbrev pub numberline : Option (List Tok) → List Tok
numberline None = []
numberline (Some number) = toks (codes "\\numberline{") ++ number ++ toks (codes "}")

-- a heading without star stands in the contents
abbrev pub contents : Heading → List Tok
contents h =
    if h.starred then []
    else toks (codes "\\addcontentsline{toc}{" ++ type_of h.level ++ codes "}{") ++ numberline h.number ++ h.short ++ toks (codes "}")

abbrev pub with_dot : Option (List Tok) → List Tok
with_dot None = []
with_dot (Some number) = number ++ toks (codes ".") ++ printed (32 ∷ [])

-- and so do the heads of pages, unless their marks are the writer's own
abbrev pub marks_at : HeadLevel → Heading → List Tok
marks_at Chapter h = toks (codes "\\markboth{\\@chapapp\\ ") ++ with_dot h.number ++ h.short ++ toks (codes "}{}")
marks_at Section h = toks (codes "\\markright{") ++ unwrap_or h.number [] ++ toks (codes "\\ ") ++ h.short ++ toks (codes "}")
marks_at level h = []

abbrev pub is_own : PageStyle → Bool
is_own style.MyHeadings = true
is_own s = false

abbrev pub marks : PageStyle → Heading → List Tok
marks s h = if h.starred || is_own s then [] else marks_at h.level h

-- the number as it stands in the text
abbrev pub chapter_line : Option (List Tok) → List Tok
chapter_line None = []
chapter_line (Some number) = toks (codes "\\@size8 \\@chapapp\\ \\thechapter\\par\\vskip20pt\\relax")

abbrev pub number_before : Heading → List Tok
number_before h = elim h.number [ None ↦ [] | Some number ↦ token.Word (printer_name (type_of h.level)) ∷ token.Word (codes "quad") ∷ [] ]

abbrev pub chapter_tokens : PageStyle → Heading → List Tok
chapter_tokens s h =
    toks (codes "\\clearpage\\thispagestyle{plain}") ++ contents h ++ marks s h
    ++ toks (codes "\\hbox{}\\vskip50pt\\relax{\\parindent0pt\\relax\\bfseries") ++ chapter_line h.number
    ++ toks (codes "\\@size9 ") ++ h.title ++ toks (codes "\\par}\\penalty10000\\vskip40pt\\relax\\@plainnext")

-- with the size of its font, and the glue before and behind it
abbrev pub section_tokens : List ℕ → List ℕ → List ℕ → PageStyle → Heading → List Tok
section_tokens size before after s h =
    toks (codes "\\par\\penalty-300\\vskip" ++ before ++ codes "\\relax") ++ contents h ++ marks s h
    ++ toks (codes "{\\parindent0pt\\relax\\@size" ++ size ++ codes " \\bfseries") ++ number_before h ++ h.title
    ++ toks (codes "\\par}\\penalty10000\\vskip" ++ after ++ codes "\\relax\\@plainnext")

abbrev pub run_in_tokens : Heading → List Tok
run_in_tokens h =
    toks (codes "\\par\\penalty-300\\vskip14pt\\relax") ++ contents h ++ toks (codes "\\noindent{\\bfseries") ++ number_before h ++ h.title
    ++ toks (codes "}\\hskip10pt\\relax")

abbrev pub tokens_at : HeadLevel → PageStyle → Heading → List Tok
tokens_at Chapter s h = chapter_tokens s h
tokens_at Section s h = section_tokens (codes "6") (codes "15pt") (codes "10pt") s h
tokens_at SubSection s h = section_tokens (codes "5") (codes "14pt") (codes "6pt") s h
tokens_at SubSubSection s h = section_tokens (codes "4") (codes "14pt") (codes "6pt") s h
tokens_at level s h = run_in_tokens h

abbrev pub page_style_now : Whole → PageStyle
page_style_now w = unwrap_or (page_style_of (tells w cell.PageStyle)) style.Plain

abbrev pub styled : (PageStyle → Whole → Executed) → Whole → Executed
styled row w = looking (cell.PageStyle ∷ []) (row (page_style_now w) w)

abbrev pub heading_put : Heading → PageStyle → Whole → Executed
heading_put h s w = put (tokens_at h.level s h) w

-- it is numbered where it has no star and is not too deep, a chapter in the main matter alone
abbrev pub is_one : ℤ → Bool
is_one n = int_le (pos 1) n && int_le n (pos 1)

abbrev pub depth_counter : List ℕ
depth_counter = codes "secnumdepth"

abbrev pub is_numbered : HeadLevel → Bool → Whole → Bool
is_numbered n starred w =
    not starred && (int_le (depth_of n) (number_of (tells w (cell.Counter depth_counter))) && (not (is_chapter n) || is_one (number_of (tells w cell.Matter))))

-- its number is what the counter's macro expands to behind the step; the style of pages is looked at before that
abbrev pub numbered_heading : HeadLevel → List Tok → List Tok → PageStyle → List Tok → Whole → Executed
numbered_heading n short title s number w =
    and_then (label_set number w) (heading_put (record { level = n; starred = false; short = short; title = title; number = Some number }) s)

abbrev pub number_made : HeadLevel → List Tok → List Tok → Whole → Executed
number_made n short title w =
    effected (step_counter (type_of n) (pos 1) true)
    (λ done v. styled (λ s u. expanded_text (token.Word (printer_name (type_of n)) ∷ []) (numbered_heading n short title s) u) v) w

abbrev pub heading_made : HeadLevel → Bool → List Tok → List Tok → Whole → Executed
heading_made n starred short title w =
    looking (cell.Counter depth_counter ∷ cell.Matter ∷ [])
    (if is_numbered n starred w then number_made n short title w
    else styled (heading_put (record { level = n; starred = starred; short = short; title = title; number = None })) w)

abbrev pub heading_read : HeadLevel → Whole → Executed
heading_read n w =
    reading star
    (λ starred v. reading bracket (λ short u. argument (λ title x. heading_made n starred (unwrap_or short title) title x) u) v) w

abbrev pub heading_at : Option HeadLevel → Whole → Executed
heading_at (Some level) w = heading_read level w
heading_at None w = stop BadCode w

unfoldable pub head_row : Whole → Executed
head_row w = number (λ n v. heading_at (row head_levels n) v) w

-- ---- `\contentsline`

-- a further group that follows at once, without its braces; None where none does
abbrev pub group_at_once : List Given → Meant (Option (List Tok))
group_at_once [] = Open want.Plain
group_at_once (AToken t ∷ given) = if opens t then some_meant (group true 0 [] given) else Ended None (AToken t ∷ given)
group_at_once (g ∷ given) = Ended None (g ∷ given)

-- they are dropped; each takes a step
abbrev pub if_dropped : Option (List Tok) → (Whole → Executed) → (Whole → Executed) → Whole → Executed
if_dropped None row more w = row w
if_dropped (Some toks) row more w = more w

abbrev pub groups_dropped : ℕ → (Whole → Executed) → Whole → Executed
groups_dropped zero row w = row w
groups_dropped (suc turns) row w = reading group_at_once (λ g v. if_dropped g row (λ u. groups_dropped turns row u) v) w

abbrev pub levels : List (List ℕ × HeadLevel)
levels = map (λ level. (type_of level, level)) head_levels

-- what is no heading is at level 9
abbrev pub level_of : List ℕ → Option HeadLevel
level_of kind = lookup (pointwise nat_eq kind) levels

abbrev pub contents_depth : Option HeadLevel → ℤ
contents_depth (Some level) = depth_of level
contents_depth None = pos 9

abbrev pub contents_indent : Option HeadLevel → List ℕ
contents_indent (Some Section) = codes "15pt"
contents_indent (Some SubSection) = codes "38pt"
contents_indent (Some SubSubSection) = codes "70pt"
contents_indent (Some Paragraph) = codes "100pt"
contents_indent (Some SubParagraph) = codes "120pt"
contents_indent level = codes "0pt"

-- a chapter's line is bold, with a space before it
abbrev pub space_above : Option HeadLevel → List Tok
space_above (Some Chapter) = toks (codes "\\vskip10pt\\relax")
space_above level = []

abbrev pub bold_at : Option HeadLevel → List Tok
bold_at (Some Chapter) = toks (codes "\\bfseries")
bold_at level = []

abbrev pub contents_line_tokens : Option HeadLevel → List Tok → List Tok → List Tok
contents_line_tokens level title page =
    toks (codes "\\par") ++ space_above level
    ++ toks (codes "{\\parindent0pt\\relax\\leftskip" ++ contents_indent level ++ codes "\\relax") ++ bold_at level ++ title
    ++ toks (codes "\\nobreak\\hfil") ++ page ++ toks (codes "\\parfillskip0pt\\relax\\par}")

abbrev pub toc_counter : List ℕ
toc_counter = codes "tocdepth"

-- a line that is too deep is none
abbrev pub contents_line_put : Option HeadLevel → List Tok → List Tok → Whole → Executed
contents_line_put level title page w =
    looking (cell.Counter toc_counter ∷ [])
    (if int_lt (number_of (tells w (cell.Counter toc_counter))) (contents_depth level) then on w else put (contents_line_tokens level title page) w)

unfoldable pub contentsline : Whole → Executed
contentsline w =
    characters
    (λ kind v. argument
    (λ title u. argument (λ page x. groups_dropped (suc x.feed.left) (contents_line_put (level_of kind) title page) x) u) v) w
