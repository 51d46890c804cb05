-- Configurations: what the cells hold, what stands next, and what is under way (TeXbook, chapters 7, 8 and 20). What a feed tells of them.
use Rattle.std.specs.Prelude.{◌++◌, Bool, true, false, ℕ, List, [], ◌∷◌, map, Option, Some, None}
use Rattle.lb_base.specs.declared.token.Tok.{Tok}
use Rattle.lb_base.specs.declared.token.Tok.TheVariants as token
use Rattle.lb_values.specs.declared.cell.Cell.{Cell}
use Rattle.lb_values.specs.declared.cell.Cell.TheVariants as cell
use Rattle.lb_values.specs.declared.value.Value.{Value}
use Rattle.lb_values.specs.declared.meaning.Meaning.{Meaning}
use Rattle.lb_model_grammar.specs.declared.given.Given.{Given}
use Rattle.lb_model.specs.declared.append.Append.{Append}
use Rattle.lb_model.specs.declared.group.Group.{Group}
use Rattle.lb_model.specs.declared.group.GroupKind.{GroupKind}
use Rattle.lb_model.specs.declared.open.Conditional.{Conditional}
use Rattle.lb_model.specs.declared.open.ReadingKind.{ReadingKind}
use Rattle.lb_model.specs.declared.place.Got.{Got}
use Rattle.lb_model.specs.declared.place.Got.TheVariants.{Tok as GotTok, End as GotEnd}
use Rattle.lb_model.specs.declared.place.Mode.{Mode}
use Rattle.lb_model.specs.declared.place.Place.{Place}
use Rattle.lb_model.specs.declared.world.World.{World}
use Rattle.lb_model.specs.Meanings.{category_in, meaning_in}
use Rattle.lb_model.specs.Settings.{Setting}
use Rattle.lb_model.specs.Sources.{Item, SourceTaken, source_examined, source_token, stepped}
use Rattle.lb_model.specs.Sources.Item.{Pending}
use Rattle.lb_model.specs.Stacked.{Stacked}

-- an open reading: what it reads, and what it was given
pub record Reading : Type 0 where
  pub kind : ReadingKind
  pub given : List Given

-- a configuration: the world; the present state and an earlier one for each open group, with the kinds of these groups; one flat list of
-- pending tokens and of the rests of texts; the place of the last token that was taken from a text, if any was; the open conditionals and the
-- open readings; the mode; what was added to the journal; and how many steps are left. What is open stands with the innermost first
pub record Config : Type 0 where
  pub world : World
  pub cells : Stacked Value
  pub groups : List GroupKind
  pub source : List Item
  pub place : Option Place
  pub conditionals : List Conditional
  pub readings : List Reading
  pub mode : Mode
  pub appends : List Append
  pub left : ℕ

-- ---- The next token, without expansion

-- what is got, and the configuration behind it
pub record Taking : Type 0 where
  pub got : Got
  pub next : Config

abbrev pub moved : SourceTaken → ℕ → Config → Config
moved t left c = record c { source = t.source; place = t.place; left = left }

-- what stands next, where the ends of texts are passed or not
abbrev pub taken_by : Bool → Config → Taking
taken_by passes c =
    let t = source_token passes (category_in c.world c.cells.now) c.place c.source in
    let s = stepped t.got c.left in
    record { got = s.0; next = moved t s.1 c }

-- the next token, and the next one of this text
abbrev pub plain : Config → Taking
plain = taken_by true

abbrev pub in_file : Config → Taking
in_file = taken_by false

-- the cells that are looked at for it: the categories of the codes that are examined
abbrev pub looks_by : Bool → Config → List Cell
looks_by passes c = map cell.Cat (source_examined passes (category_in c.world c.cells.now) c.source)

abbrev pub looks_of_plain : Config → List Cell
looks_of_plain = looks_by true

abbrev pub looks_in_file : Config → List Cell
looks_in_file = looks_by false

-- ---- Tokens before the rest

abbrev pub put_back : Tok → Config → Config
put_back tok c = record c { source = Pending tok ∷ c.source }

abbrev pub put_all : List Tok → Config → Config
put_all toks c = record c { source = map Pending toks ++ c.source }

-- ---- Meanings

-- what a control sequence or an active character means in a configuration
abbrev pub meaning_now : Config → Tok → Option Meaning
meaning_now c tok = meaning_in c.world c.cells.now tok

-- the cell that is looked at for it
abbrev pub looks_of_meaning : Tok → List Cell
looks_of_meaning (token.Word name) = cell.Word name ∷ []
looks_of_meaning (token.Active code) = cell.Active code ∷ []
looks_of_meaning tok = []

-- ---- Feeds

-- over what the cells of a feed were made, the open groups and how many saves each has made, the loans of its cells and of its desk, and the
-- loan by which its cells write a state in place
pub record Origin : Type 0 where
  pub made : Setting
  pub groups : List Group
  pub cells : ℕ
  pub desk : ℕ
  pub inner : ℕ

-- a token that was asked for, None at the end
abbrev pub asked : Option Tok → Got
asked None = GotEnd
asked (Some tok) = GotTok tok
