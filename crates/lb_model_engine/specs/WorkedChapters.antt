-- Chapters of a line, over the state at the start with some macros of the kernel; words and lines in the test font: for rows that are worked out by
-- hand.
use Rattle.std.specs.Prelude.{◌++◌, false, ℕ, pos, List, [], ◌∷◌, codes, drop, map, nat_eq, replicate, take, Option, None, Some, unwrap_or}
use Rattle.std.specs.Cmp.Lexicographic.{pointwise}
use Rattle.std.specs.FinMap as files
use Rattle.std.specs.Map.{lookup}
use Rattle.lb_base.specs.declared.fault.Fault.{Fault}
use Rattle.lb_base.specs.declared.fault.Kind.{Kind}
use Rattle.lb_base.specs.declared.fault.Kind.TheVariants as kind
use Rattle.lb_base.specs.declared.node.KernOrigin.TheVariants.{Explicit}
use Rattle.lb_base.specs.declared.node.Node.{Char as CharNode, Kern as KernNode, Node}
use Rattle.lb_base.specs.declared.token.Category.TheVariants.{Letter}
use Rattle.lb_base.specs.declared.token.Tok.TheVariants.{Word}
use Rattle.lb_values.specs.declared.cell.Cell.{Cell}
use Rattle.lb_values.specs.declared.cell.Cell.TheVariants as cell
use Rattle.lb_values.specs.declared.value.Value.{Value}
use Rattle.lb_values.specs.declared.value.Value.TheVariants as value
use Rattle.lb_values.specs.Kept.{put}
use Rattle.lb_model.specs.declared.append.Append.{Append}
use Rattle.lb_model.specs.declared.append.Append.TheVariants.{Log}
use Rattle.lb_model.specs.declared.group.GroupKind.TheVariants.{Simple}
use Rattle.lb_model.specs.declared.world.World.{World}
use Rattle.lb_model.specs.Kinds.{no_glue}
use Rattle.lb_model.specs.Settings.{State}
use Rattle.lb_model.specs.StartState.{start}
use Rattle.lb_model_paper.specs.declared.paragraph.LineRules.{LineRules}
use Rattle.lb_model_paper.specs.Breaks.{sums_of}
use Rattle.lb_model_paper.specs.FontFiles.{font_of}
use Rattle.lb_model_paper.specs.Fonts.{FontData, metrics_of, named}
use Rattle.lb_model_paper.specs.Rows.{noon}
use Rattle.lb_model_paper.specs.TestFont.{test_font}
use Rattle.lb_model_paper.specs.Words.{known}
use Rattle.lb_model_journal.specs.declared.event.Event.{Event}
use Rattle.lb_model_nest.specs.declared.nest.ListKind.TheVariants as list
use Rattle.lb_model_nest.specs.declared.display.Display.{Display}
use Rattle.lb_model_nest.specs.declared.display.Display.TheVariants.{Itemize, Quote}
use Rattle.lb_model_nest.specs.declared.turn.Went.{Went}
use Rattle.lb_model_nest.specs.declared.turn.Went.TheVariants.{Stopped}
use Rattle.lb_model_nest.specs.Paragraphs.{bad_event, paragraph_shape, place_now}
use Rattle.lb_model_nest.specs.Wholes.{Executed, Whole, and_then, entered, on}
use Rattle.lb_model_nest.specs.Words.{character, word_ended}
use Rattle.lb_model_engine.specs.Definitions.{plain_macro}
use Rattle.lb_model_engine.specs.Kernel.{kernel_lines}
use Rattle.lb_model_engine.specs.Lists.{endlist_row, item_row, list_row, toks}
use Rattle.lb_model_engine.specs.Pieces.{Outcome, PieceText, nothing_noted, piece_text, text_outcome, told_of}
use Rattle.lb_model_engine.specs.Turns.{begun, turns}

-- ---- Chapters of one line

abbrev pub world_within : ℕ → World
world_within steps = record { files = files.empty; main = codes "main"; prefix = []; steps = steps; moment = noon }

-- a macro without parameters
abbrev pub short_macro : List ℕ → Value
short_macro text = plain_macro false [] (toks text)

abbrev pub kernel_macros : List (List ℕ × Value)
kernel_macros =
    (codes "itemize", short_macro (codes "\\@list0 ")) ∷ (codes "quote", short_macro (codes "\\@list3 ")) ∷ (codes "endquote", short_macro (codes "\\@endlist"))
    ∷ (codes "endcenter", short_macro (codes "\\@endlist")) ∷ []

abbrev pub state : State
state (cell.Word name) = unwrap_or (lookup (pointwise nat_eq name) kernel_macros) (start (cell.Word name))
state c = start c

abbrev pub text_of_line : List ℕ → PieceText
text_of_line text = piece_text (codes "a.tex") 1 (text ∷ []) 1

-- what a chapter of one line gives, within so many steps
abbrev pub set_within : ℕ → List ℕ → Outcome
set_within steps text = text_outcome (text_of_line text) (world_within steps) state

abbrev pub set : List ℕ → Outcome
set text = set_within 10000 text

-- its fault, and a fault that is told with a line
abbrev pub fault_of : List ℕ × Kind → Option Fault
fault_of row = (set row.0).fault

abbrev pub fault_told : List ℕ × Kind → Option Fault
fault_told row = Some (record { kind = row.1; file = codes "a.tex"; line = 1 })

-- names, groups, conditionals and characters
abbrev pub faulty_names : List (List ℕ × Kind)
faulty_names =
    (codes "\\nosuch", kind.Undefined) ∷ (codes "\\renewcommand{\\zz}{}", kind.Undefined) ∷ (codes "}", kind.GroupExtra)
    ∷ (codes "{", kind.GroupOpen) ∷ (codes "\\iftrue", kind.IfOpen) ∷ (codes "\\iffalse", kind.IfOpen) ∷ (codes "\\fi", kind.ExtraFi)
    ∷ (codes "{\\iftrue", kind.GroupOpen) ∷ (codes "\\newcommand{\\par}{}", kind.AlreadyDefined) ∷ (codes "\\newcounter{page}", kind.AlreadyDefined)
    ∷ (codes "#", kind.TokenMisplaced) ∷ (codes "^^?", kind.Invalid) ∷ []

-- numbers, codes and counters
abbrev pub faulty_numbers : List (List ℕ × Kind)
faulty_numbers =
    (codes "\\count1=x", kind.NumberMissing) ∷ (codes "\\count1=2147483648 ", kind.NumberTooBig) ∷ (codes "\\dimen1=1xx", kind.UnitMissing)
    ∷ (codes "\\dimen1=16384pt", kind.DimenTooLarge) ∷ (codes "\\catcode65=16 ", kind.BadCode)
    ∷ (codes "\\count1=2147483647 \\advance\\count1 by1 ", kind.Overflow) ∷ (codes "\\setcounter{zz}{1}", kind.NoCounter)
    ∷ (codes "\\setcounter{enumi}{27}\\alph{enumi}", kind.CounterTooLarge) ∷ []

-- arguments, modes, and what is refused
abbrev pub faulty_rows : List (List ℕ × Kind)
faulty_rows =
    (codes "\\def\\m#1.{}\\m x", kind.Runaway) ∷ (codes "\\def\\m a{}\\m b", kind.UseMismatch) ∷ (codes "\\hbox{\\vskip1pt}", kind.WrongMode)
    ∷ (codes "\\item x", kind.NotYet) ∷ (codes "&", kind.AlignRefused) ∷ (codes "$x$", kind.MathRefused)
    ∷ (codes "\\usepackage{x}", kind.PackageRefused) ∷ (codes "\\documentclass{report}", kind.ClassRefused) ∷ []

-- the end of an environment is checked behind its macro, which may take nothing from there; then its group ends
abbrev pub faulty_environments : List (List ℕ × Kind)
faulty_environments =
    (codes "\\newenvironment{w}{}{}\\begin{w}\\end{z}", kind.EnvironmentMismatch)
    ∷ (codes "\\newenvironment{w}{}{}\\end{w}", kind.EnvironmentMismatch) ∷ (codes "\\end{document}", kind.EnvironmentMismatch)
    ∷ (codes "\\end{quote}", kind.NotYet) ∷ (codes "\\newenvironment{w}{}{}\\begin{w}{\\end{w}", kind.GroupExtra)
    ∷ (codes "\\newenvironment{w}{}{}\\begin{w}\\endgroup\\end{w}", kind.EnvironmentMismatch)
    ∷ (codes "\\def\\m#1{}\\newenvironment{w}{}{\\m}\\begin{w}\\end{w}", kind.Runaway)
    ∷ (codes "\\newenvironment{w}{}{\\iffalse}\\begin{w}\\end{w}\\fi", kind.IfOpen) ∷ (codes "\\newenvironment{w}{}{}\\begin{w}", kind.GroupOpen) ∷ []

-- lists are not carried out yet
abbrev pub faulty_lists : List (List ℕ × Kind)
faulty_lists = (codes "\\begin{itemize}", kind.NotYet) ∷ (codes "\\begin{quote}\\end{quote}", kind.NotYet) ∷ []

-- what commands of lists do inside these ones, where this line comes next
abbrev pub inside : List Display → List ℕ → Whole
inside lists text = record (begun (text_of_line text).text (world_within 1000) state) { lists = lists }

abbrev pub list_faults : List Went
list_faults =
    (item_row (inside [] (codes " x"))).done.went ∷ (endlist_row (inside [] [])).done.went
    ∷ (list_row (inside (replicate 4 Itemize) (codes "0 "))).done.went ∷ (list_row (inside (replicate 6 Quote) (codes "3 "))).done.went ∷ []

abbrev pub list_faults_told : List Went
list_faults_told = Stopped kind.ItemOutside ∷ Stopped kind.ItemOutside ∷ Stopped kind.TooDeep ∷ Stopped kind.TooDeep ∷ []

-- ---- Parts of the kernel text

abbrev pub letter_state : State
letter_state = put (cell.Cat 64) (value.Category Letter) start

-- so many lines of the kernel text behind so many others, as a text of their own in which `@` is a letter
abbrev pub kernel_part : ℕ × ℕ → Outcome
kernel_part part =
    text_outcome (piece_text (codes "kernel") 1 (take part.1 (drop part.0 kernel_lines)) 69) (world_within 10000) letter_state

abbrev pub fault_of_part : ℕ × ℕ → Option Fault
fault_of_part part = (kernel_part part).fault

-- all of its lines, cut where no macro goes on
abbrev pub first_parts : List (ℕ × ℕ)
first_parts = (0, 5) ∷ (5, 3) ∷ (8, 4) ∷ (12, 3) ∷ (15, 3) ∷ (18, 4) ∷ (22, 6) ∷ []

abbrev pub middle_parts : List (ℕ × ℕ)
middle_parts = (28, 3) ∷ (31, 5) ∷ (36, 4) ∷ (40, 2) ∷ (42, 5) ∷ (47, 2) ∷ []

abbrev pub last_parts : List (ℕ × ℕ)
last_parts = (49, 4) ∷ (53, 4) ∷ (57, 4) ∷ (61, 5) ∷ (66, 3) ∷ []

abbrev pub no_faults : List (ℕ × ℕ) → List (Option Fault)
no_faults parts = map (λ part. None) parts

-- ---- Turns

-- what is done in so many turns
abbrev pub behind : ℕ → List ℕ → Executed
behind n text = turns n (text_of_line text).last (begun (text_of_line text).text (world_within 10000) state)

-- a row: the turns, the line, a cell, and what it holds then
pub record Held : Type 0 where
  pub turns : ℕ
  pub text : List ℕ
  pub cell : Cell
  pub value : Value

abbrev pub row : ℕ → List ℕ → Cell → Value → Held
row n text c v = record { turns = n; text = text; cell = c; value = v }

abbrev pub held_behind : Held → Value
held_behind r = (behind r.turns r.text).done.next.feed.cells.now r.cell

abbrev pub held_told : Held → Value
held_told r = r.value

-- registers, groups, counters, labels and tokens
abbrev pub worked_registers : List Held
worked_registers =
    row 1 (codes "\\count1=5 ") (cell.Count 1) (value.Number (pos 5))
    ∷ row 2 (codes "\\count1=5 \\advance\\count1 by2 ") (cell.Count 1) (value.Number (pos 7))
    ∷ row 2 (codes "\\count1=7 \\divide\\count1 by2 ") (cell.Count 1) (value.Number (pos 3))
    ∷ row 1 (codes "\\dimen1=2.5cm") (cell.Dimen 1) (value.Dimen (pos 4661699))
    ∷ row 5 (codes "{\\begingroup\\count1=5 \\endgroup}") (cell.Count 1) value.Absent
    ∷ row 5 (codes "{\\begingroup\\global\\count1=5 \\endgroup}") (cell.Count 1) (value.Number (pos 5))
    ∷ row 2 (codes "\\setcounter{enumi}{3}\\stepcounter{enumi}") (cell.Counter (codes "enumi")) (value.Number (pos 4))
    ∷ row 2 (codes "\\setcounter{section}{3}\\stepcounter{chapter}") (cell.Counter (codes "section")) (value.Number (pos 0))
    ∷ row 3 (codes "\\setcounter{enumi}{3}\\def\\theenumi{\\roman{enumi}}\\refstepcounter{enumi}") cell.CurrentLabel (value.Text (codes "iv"))
    ∷ row 3 (codes "\\def\\m{y}\\toks0={\\m}\\edef\\n{\\the\\toks0}") (cell.Word (codes "n")) (plain_macro false [] (Word (codes "m") ∷ [])) ∷ []

-- the group of an environment: behind the macro of its end it is closed in a turn of its own
abbrev pub worked_environments : List Held
worked_environments =
    row 4 (codes "\\newenvironment{w}{}{}\\begin{w}\\count1=5 \\end{w}") (cell.Count 1) (value.Number (pos 5))
    ∷ row 5 (codes "\\newenvironment{w}{}{}\\begin{w}\\count1=5 \\end{w}") (cell.Count 1) value.Absent
    ∷ row 3 (codes "\\newenvironment{w}{}{}\\begin{w}\\relax\\end{w}") cell.Env (value.Name (codes "w"))
    ∷ row 5 (codes "\\newenvironment{w}{}{}\\begin{w}\\relax\\end{w}") cell.Env (value.Name [])
    ∷ row 5 (codes "\\newenvironment{w}{}{\\global\\count1=7}\\begin{w}\\end{w}8") (cell.Count 1) (value.Number (pos 7)) ∷ []

-- texts for the log: what a register of tokens gives is expanded too
abbrev pub typed_behind : ℕ × (List ℕ × List ℕ) → List Append
typed_behind r = (behind r.0 r.1.0).done.next.feed.appends

abbrev pub typed_told : ℕ × (List ℕ × List ℕ) → List Append
typed_told r = Log (r.1.1 ++ 10 ∷ []) ∷ []

-- the turns, the line, and what is typed
abbrev pub worked_texts : List (ℕ × (List ℕ × List ℕ))
worked_texts =
    (2, (codes "\\def\\m{y}\\typeout{a\\m}", codes "ay")) ∷ (3, (codes "\\def\\m{y}\\toks0={\\m}\\typeout{\\the\\toks0}", codes "y"))
    ∷ (1, (codes "\\typeout{\\relax a}", codes "\\relax a")) ∷ []

-- ---- Words and lines in the test font

abbrev pub roman_font : FontData
roman_font = named (font_of test_font (pos 655360)) (codes "cmr10")

abbrev pub roman_character : ℕ → Node
roman_character code = CharNode code (known (metrics_of roman_font code)) roman_font.id

-- a paragraph without indent whose first word has that font
abbrev pub paragraph : Whole
paragraph = record (entered list.Paragraph (begun (text_of_line []).text (world_within 1000) state)) { font = Some roman_font }

abbrev pub characters_of : List ℕ → Whole → Executed
characters_of [] w = on w
characters_of (code ∷ text) w = and_then (character code w) (characters_of text)

-- what is done for a word
abbrev pub word_of : List ℕ → Executed
word_of text = and_then (characters_of text paragraph) word_ended

-- what the log tells of a line of so many characters behind 15pt, where it is bad
abbrev pub line_of : ℕ → List Node
line_of n = KernNode (pos 983040) Explicit ∷ replicate n (roman_character 120)

abbrev pub event_of_line : ℕ → Event
event_of_line n = bad_event (paragraph_shape paragraph) (sums_of (line_of n)) (place_now paragraph)

-- ---- Limits, and what stands first and last

-- a text with so many open groups
abbrev pub grouped : ℕ → Whole
grouped n = let w : Whole = inside [] [] in record w { feed = record w.feed { groups = replicate n Simple } }

-- the cells that are looked at
abbrev pub looked_at : Executed → List Cell
looked_at e = told_of (e.noted (Some nothing_noted))

-- lines 12pt apart, or 1pt where they would touch
abbrev pub plain_lines : LineRules
plain_lines =
    record { baselineskip = record no_glue { width = pos 786432 }; lineskip = record no_glue { width = pos 65536 }; lineskiplimit = pos 0 }
