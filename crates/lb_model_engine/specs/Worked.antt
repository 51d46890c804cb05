-- Whole configurations with pending tokens over a small state, for rows that are worked out by hand.
use Rattle.std.specs.Prelude.{◌+◌, ◌*◌, ◌%◌, ℕ, pos, List, [], ◌∷◌, map, codes, length, nat_eq}
use Rattle.std.specs.Cmp.Lexicographic.{pointwise}
use Rattle.std.specs.Map.{lookup}
use Rattle.std.specs.Option.{option_map_or}
use Rattle.lb_base.specs.declared.token.Tok.{Tok}
use Rattle.lb_base.specs.declared.token.Tok.TheVariants.{Char, Word}
use Rattle.lb_rows.specs.declared.command.Command.{Command}
use Rattle.lb_rows.specs.declared.command.Command.TheVariants.{Advance, BeginGroup, Count, Def, Dimen, EndGroup, Global as GlobalRow, HBox, Kern, Let, Long, Number, Relax, SetBox, VBox}
use Rattle.lb_values.specs.declared.cell.Cell.{Cell}
use Rattle.lb_values.specs.declared.cell.Cell.TheVariants as cell
use Rattle.lb_values.specs.declared.meaning.Meaning.TheVariants as meaning
use Rattle.lb_values.specs.declared.value.Value.{Value}
use Rattle.lb_values.specs.declared.value.Value.TheVariants as value
use Rattle.lb_model.specs.Settings.{State}
use Rattle.lb_model.specs.StartState.{start_category}
use Rattle.lb_model_expansion.specs.Worked as expanded
use Rattle.lb_model_nest.specs.declared.turn.Went.{Went}
use Rattle.lb_model_engine.specs.Turns.{whole_of}
use Rattle.lb_model_nest.specs.Wholes.{Executed, Whole}

-- characters with their categories at the start, and a control sequence
abbrev pub character : ℕ → Tok
character c = Char (start_category c) c

abbrev pub tokens : List ℕ → List Tok
tokens text = map character text

abbrev pub control : List ℕ → List Tok
control name = Word name ∷ []

abbrev pub rows : List (List ℕ × Command)
rows =
    (codes "count", Count) ∷ (codes "dimen", Dimen) ∷ (codes "global", GlobalRow) ∷ (codes "long", Long) ∷ (codes "let", Let) ∷ (codes "def", Def) ∷ (codes "advance", Advance)
    ∷ (codes "begingroup", BeginGroup) ∷ (codes "endgroup", EndGroup) ∷ (codes "hbox", HBox) ∷ (codes "vbox", VBox) ∷ (codes "kern", Kern) ∷ (codes "setbox", SetBox)
    ∷ (codes "number", Number) ∷ (codes "relax", Relax) ∷ []

-- 255 is the next register of each kind, some names are commands, and there are the counters of pages and of items
abbrev pub state : State
state (cell.Fresh kind) = value.Number (pos 255)
state (cell.Word name) = option_map_or (λ row. value.Meaning (meaning.Row row)) (lookup (pointwise nat_eq name) rows) value.Absent
state (cell.Counter name) = value.Number (pos 1)
state c = value.Absent

abbrev pub whole : List Tok → Whole
whole toks =
    let w : Whole = whole_of (expanded.begun toks) in record w { feed = record w.feed { cells = record { now = state; earlier = [] } } }

-- how a row went, and what a cell holds behind it
abbrev pub went_of : Executed → Went
went_of e = e.done.went

abbrev pub held : Executed → Cell → Value
held e c = e.done.next.feed.cells.now c

-- a number that depends on each code of some lines and its place, each line with a line feed: a polynomial in 31 modulo 2^32 − 5
abbrev pub digest_of_line : ℕ → List ℕ → ℕ
digest_of_line h [] = (31 * h + 10) % 4294967291
digest_of_line h (c ∷ text) = digest_of_line ((31 * h + c) % 4294967291) text

abbrev pub digest : ℕ → List (List ℕ) → ℕ
digest h [] = h
digest h (line ∷ lines) = digest (digest_of_line h line) lines

-- how many codes they have
abbrev pub size_of_lines : ℕ → List (List ℕ) → ℕ
size_of_lines n [] = n
size_of_lines n (line ∷ lines) = size_of_lines (n + (length line + 1)) lines
