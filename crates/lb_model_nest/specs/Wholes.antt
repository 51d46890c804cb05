-- Whole configurations, and how the row of a command is told: what is done, and beside it what is noted (TeXbook, chapters 7, 13 and 24;
-- tex.web, parts 16, 19 and 46).
use Rattle.std.specs.Prelude.{◌+◌, ◌++◌, Bool, true, false, ℕ, ℤ, pos, neg_ℤ, nat_lt, List, [], ◌∷◌, length, Option, Some, None, if◌then◌else◌}
use Rattle.std.specs.Option.{option_map}
use Rattle.lb_base.specs.declared.fault.Fault.{Fault}
use Rattle.lb_base.specs.declared.fault.Kind.{Kind}
use Rattle.lb_base.specs.declared.fault.Kind.TheVariants.{DepthLimit}
use Rattle.lb_base.specs.declared.node.Axis.TheVariants.{Horizontal, Vertical}
use Rattle.lb_base.specs.declared.node.Node.{Node}
use Rattle.lb_base.specs.declared.token.Tok.{Tok}
use Rattle.lb_values.specs.declared.cell.Cell.{Cell}
use Rattle.lb_values.specs.declared.reach.Reach.{Reach}
use Rattle.lb_values.specs.declared.value.Value.{Value}
use Rattle.lb_model.specs.declared.append.Append.{Append}
use Rattle.lb_model.specs.declared.place.Mode.{Mode}
use Rattle.lb_model.specs.declared.place.Mode.TheVariants as mode
use Rattle.lb_model.specs.Configs.{Config, put_all}
use Rattle.lb_model.specs.Settings.{look}
use Rattle.lb_model.specs.Sources.{pending}
use Rattle.lb_model.specs.Stacked.{StackedNotes, assigned, looked_all, notes_assigned}
use Rattle.lb_model_paper.specs.Fonts.{FontData}
use Rattle.lb_model_nest.specs.declared.display.Display.{Display}
use Rattle.lb_model_nest.specs.declared.nest.Level.{Level}
use Rattle.lb_model_nest.specs.declared.nest.ListKind.{ListKind}
use Rattle.lb_model_nest.specs.declared.nest.ListKind.TheVariants as list
use Rattle.lb_model_nest.specs.declared.turn.Went.{Went}
use Rattle.lb_model_nest.specs.declared.turn.Went.TheVariants as went

-- A whole configuration: what the feed has, with the states of the open groups and what is pending; the innermost open list, and the lists
-- around it, the innermost first; the characters of the word under construction, with its font; the list of pages; for each open group the
-- tokens that come after it, the innermost group first; the kinds of the open lists of items and of displayed paragraphs, the innermost
-- first; the names of the environments whose ends are under way, the innermost first; whether spaces are skipped before the next token; and
-- whether the next paragraph has no indent
pub record Whole : Type 0 where
  pub feed : Config
  pub level : Level
  pub around : List Level
  pub word : List ℕ
  pub font : Option FontData
  pub page : List Node
  pub after : List (List Tok)
  pub lists : List Display
  pub ending : List (List ℕ)
  pub skips_spaces : Bool
  pub plain_next : Bool

-- ---- What is done, and what is noted

-- how a row went, and the configuration behind it
pub record Turn : Type 0 where
  pub went : Went
  pub next : Whole

-- what is done, and what becomes of the notes
pub record Executed : Type 0 where
  pub done : Turn
  pub noted : Option StackedNotes → Option StackedNotes

abbrev pub executed : Went → Whole → Executed
executed way w = record { done = record { went = way; next = w }; noted = λ n. n }

abbrev pub on : Whole → Executed
on w = executed went.On w

abbrev pub stop : Kind → Whole → Executed
stop kind w = executed (went.Stopped kind) w

abbrev pub stop_at : Fault → Whole → Executed
stop_at fault w = executed (went.StoppedAt fault) w

-- where a row went on, more is done
abbrev pub and_as : Went → Executed → Executed → Executed
and_as went.On e more = record { done = more.done; noted = λ n. more.noted (e.noted n) }
and_as way e more = e

abbrev pub and_then : Executed → (Whole → Executed) → Executed
and_then e more = and_as e.done.went e (more e.done.next)

-- this is noted before
abbrev pub behind : (Option StackedNotes → Option StackedNotes) → Executed → Executed
behind noted e = record { done = e.done; noted = λ n. e.noted (noted n) }

-- ---- Cells

-- what a cell tells
abbrev pub tells : Whole → Cell → Value
tells w cell = look w.feed.world w.feed.cells.now cell

-- cells are looked at before
abbrev pub looking : List Cell → Executed → Executed
looking cells e = behind (option_map (looked_all cells)) e

-- a cell is changed
abbrev pub change : Reach → Cell → Value → Whole → Executed
change reach cell v w =
    record {
      done = record { went = went.On; next = record w { feed = record w.feed { cells = assigned reach cell v w.feed.cells } } };
      noted = option_map (notes_assigned reach cell);
    }

-- it is changed to a value, unless there is none
abbrev pub change_or : Kind → Reach → Cell → Option Value → Whole → Executed
change_or kind reach cell None w = stop kind w
change_or kind reach cell (Some v) w = change reach cell v w

-- ---- The feed

abbrev pub with_feed : Config → Whole → Whole
with_feed c w = record w { feed = c }

-- tokens are put before the rest: there is room for a million
abbrev pub put : List Tok → Whole → Executed
put toks w = if nat_lt 1000000 (length toks + pending w.feed.source) then stop DepthLimit w else on (with_feed (put_all toks w.feed) w)

-- all steps are taken
abbrev pub without_steps : Whole → Whole
without_steps w = record w { feed = record w.feed { left = 0 } }

-- something is added to the journal
abbrev pub appended : Append → Whole → Whole
appended a w = record w { feed = record w.feed { appends = w.feed.appends ++ a ∷ [] } }

-- ---- The nest of lists

abbrev pub mode_of : ListKind → Mode
mode_of list.Page = mode.Vertical
mode_of list.Paragraph = mode.Paragraph
mode_of (list.Box Horizontal target context) = mode.Restricted
mode_of (list.Box Vertical target context) = mode.Vertical
mode_of list.Adjust = mode.Vertical
mode_of list.Footnote = mode.Vertical
mode_of (list.Discretionary part) = mode.Restricted
mode_of list.Mark = mode.Restricted
mode_of (list.MarkBox is_last) = mode.Restricted

abbrev pub is_vertical : Mode → Bool
is_vertical mode.Vertical = true
is_vertical m = false

abbrev pub is_paragraph : Mode → Bool
is_paragraph mode.Paragraph = true
is_paragraph m = false

abbrev pub is_restricted : Mode → Bool
is_restricted mode.Restricted = true
is_restricted m = false

-- −1000pt: no glue comes before the next box
abbrev pub no_depth : ℤ
no_depth = neg_ℤ (pos 65536000)

abbrev pub new_level : ListKind → Level
new_level kind = record { kind = kind; nodes = []; space_factor = pos 1000; prev_depth = no_depth }

abbrev pub with_mode : Mode → Whole → Whole
with_mode m w = record w { feed = record w.feed { mode = m } }

-- a list is opened inside the others
abbrev pub entered : ListKind → Whole → Whole
entered kind w = with_mode (mode_of kind) (record w { level = new_level kind; around = w.level ∷ w.around })

-- the innermost list is left; the outermost one is that of pages
abbrev pub level_around : List Level → Level
level_around [] = new_level list.Page
level_around (level ∷ around) = level

abbrev pub levels_around : List Level → List Level
levels_around [] = []
levels_around (level ∷ around) = around

abbrev pub left_level : Whole → Whole
left_level w = with_mode (mode_of (level_around w.around).kind) (record w { level = level_around w.around; around = levels_around w.around })

-- a node behind those of the innermost list
abbrev pub with_node : Node → Whole → Whole
with_node node w = record w { level = record w.level { nodes = w.level.nodes ++ node ∷ [] } }
