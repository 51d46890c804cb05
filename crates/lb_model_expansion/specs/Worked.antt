-- Steps from pending tokens over a small state, for rows that are worked out by hand.
use Rattle.std.specs.Prelude.{◌==◌, ◌&&◌, ◌||◌, ℕ, List, [], ◌∷◌, map, codes, None, nat_eq, nat_le, if◌then◌else◌}
use Rattle.std.specs.Cmp.Lexicographic.{pointwise}
use Rattle.std.specs.FinMap as files
use Rattle.std.specs.Map.{lookup}
use Rattle.std.specs.Option.{option_map_or}
use Rattle.lb_base.specs.declared.token.Tok.{Tok}
use Rattle.lb_base.specs.declared.token.Category.TheVariants.{Letter, Other, Space}
use Rattle.lb_base.specs.declared.token.Tok.TheVariants.{Char, Word}
use Rattle.lb_rows.specs.declared.command.Command.{Command}
use Rattle.lb_rows.specs.declared.command.Command.TheVariants.{CsName, Else, EndCsName, ExpandAfter, Fi, IfCase, IfNum, IfFalse, IfTrue, JobName, NoExpand, Number, Or, Relax, RomanNumeral, String}
use Rattle.lb_values.specs.declared.cell.Cell.TheVariants as cell
use Rattle.lb_values.specs.declared.meaning.Meaning.TheVariants as meaning
use Rattle.lb_values.specs.declared.value.Value.TheVariants as value
use Rattle.lb_model.specs.declared.world.World.{World}
use Rattle.lb_model.specs.Settings.{State}
use Rattle.lb_model.specs.declared.place.Mode.TheVariants.{Vertical}
use Rattle.lb_model.specs.Configs.{Config}
use Rattle.lb_model_expansion.specs.Expansion.{next_from}
use Rattle.lb_model_expansion.specs.Steps.{Step}
use Rattle.lb_model.specs.Sources.Item.{Pending}

abbrev pub rows : List (List ℕ × Command)
rows =
    (codes "ifnum", IfNum) ∷ (codes "ifcase", IfCase) ∷ (codes "or", Or) ∷ (codes "else", Else) ∷ (codes "fi", Fi) ∷ (codes "number", Number)
    ∷ (codes "romannumeral", RomanNumeral) ∷ (codes "expandafter", ExpandAfter) ∷ (codes "csname", CsName) ∷ (codes "endcsname", EndCsName)
    ∷ (codes "relax", Relax) ∷ (codes "string", String) ∷ (codes "noexpand", NoExpand) ∷ (codes "iftrue", IfTrue) ∷ (codes "iffalse", IfFalse) ∷ (codes "jobname", JobName) ∷ []

abbrev pub state : State
state (cell.Word name) = option_map_or (λ row. value.Meaning (meaning.Row row)) (lookup (pointwise nat_eq name) rows) value.Absent
state c = value.Absent

abbrev pub world : World
world = record { files = files.empty; main = codes "main"; prefix = []; steps = 1000; moment = record { year = 1776; month = 7; day = 4; minutes = 720 } }

abbrev pub begun : List Tok → Config
begun toks =
    record {
      world = world;
      cells = record { now = state; earlier = [] };
      groups = [];
      source = map Pending toks;
      place = None;
      conditionals = [];
      readings = [];
      mode = Vertical;
      appends = [];
      left = 100;
    }

abbrev pub control : List ℕ → List Tok
control name = Word name ∷ []

-- steps to the first that does not go on, no more than forty
abbrev pub expansion : List Tok → Step
expansion toks = next_from 40 (begun toks)

-- a character with its category at the start
abbrev pub character : ℕ → Tok
character c =
    if c == 32 then Char Space 32
    else (if (nat_le 65 c && nat_le c 90) || (nat_le 97 c && nat_le c 122) then Char Letter c else Char Other c)

abbrev pub tokens : List ℕ → List Tok
tokens text = map character text
