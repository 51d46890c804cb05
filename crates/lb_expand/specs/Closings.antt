-- Readings that close, and what becomes of what they read.
use Rattle.std.specs.Prelude.{◌≡◌, ⊤, ℕ, ℤ, pos, List, [], Option, Some, None, is_some, Result, IfOk, if◌then◌else◌}
use Rattle.std.specs.Option.{option_map}
use Rattle.lb_base.specs.declared.fault.Kind.TheVariants.{TokenMisplaced}
use Rattle.lb_base.specs.declared.token.Tok.{Tok}
use Rattle.lb_rows.specs.declared.command.Command.TheVariants as command
use Rattle.lb_values.specs.declared.cell.Cell.TheVariants as cell
use Rattle.lb_values.specs.declared.meaning.Meaning.{Meaning}
use Rattle.lb_values.specs.declared.meaning.Meaning.TheVariants as meaning
use Rattle.lb_values.specs.declared.reach.Reach.TheVariants.{Local}
use Rattle.lb_values.specs.declared.value.Form.TheVariants as form
use Rattle.lb_values.specs.declared.value.Value.TheVariants as value
use Rattle.lb_model.specs.Stacked.{assigned, notes_assigned}
use Rattle.lb_model_expansion.specs.declared.expansion.Went.TheVariants.{On}
use Rattle.lb_model.specs.declared.cells.Cells.{Ghosts}
use Rattle.lb_model.specs.declared.open.Pairing.{Pairing}
use Rattle.lb_model.specs.declared.open.Purpose.{Purpose}
use Rattle.lb_model.specs.declared.open.Purpose.TheVariants.{Roman, Left, Right, Odd, Case, Index, CounterValue}
use Rattle.lb_model.specs.declared.open.ReadingKind.TheVariants as reading
use Rattle.lb_model.specs.Conditionals.{comparison}
use Rattle.lb_model.specs.Configs.{Config}
use Rattle.lb_model.specs.Forms.{in_form}
use Rattle.lb_model.specs.Quantities.{Internal}
use Rattle.lb_model.specs.Quantities.Internal.{Picked}
use Rattle.lb_model_grammar.specs.declared.given.ScanKind.TheVariants as scan_kind
use Rattle.lb_model.specs.Settings.{Setting}
use Rattle.lb_model_grammar.specs.Conditionals.{chosen}
use Rattle.lb_model_grammar.specs.declared.condition.CondKind.TheVariants.{IfOdd, IfCase}
use Rattle.lb_model_expansion.specs.Expansion.{decided, in_form_or, index_closed, internal_given, kept, opened, opened_uncounted, pair_kind, picks, seen_as, word_opened}
use Rattle.lb_model_expansion.specs.Steps.{Performed, on, performed, stopped}
use Rattle.lb_quantities.specs.Finds.{internal_of}
use Rattle.lb_expand.specs.Performs.{Passes}
use Rattle.lb_expand.specs.declared.closing.Closed.{Closed}
use Rattle.lb_expand.specs.declared.closing.Closed.TheVariants.{Went, Hands}
use Rattle.lb_expand.specs.declared.desk.Desk.{Desk}

-- what comes of a reading that closed, where this is done with a quantity that it hands on
abbrev pub handed_on : Closed → (Internal → Config → Performed) → Config → Performed
handed_on (Went went) more = performed went
handed_on (Hands found) more = more (internal_of found)

-- this holds where a quantity is handed on
abbrev pub IfHands : Closed → Type 0 → Type 0
IfHands (Went went) holds = ⊤
IfHands (Hands found) holds = holds

-- a call over cells and a desk that closes a reading, whatever is done with the quantity that it hands on; the readings around it stay
pub record Closes {S E : Type 0} (C : Ghosts S) (act : (Internal → Config → Performed) → Config → Performed) (result : Result Closed E) (new : S) (desk_new : Desk) (old : S) (desk_old : Desk) : Type 0 where
  pub narrows : (p : Setting) → C.agrees new p → C.agrees old p
  pub passes : IfOk result (λ closed. (more : Internal → Config → Performed) → Passes C (act more) (handed_on closed more) new desk_new old desk_old)
  pub keeps : IfOk result (λ closed. IfHands closed ((p : Setting) → C.agrees new p → desk_new.readings ≡ desk_old.readings))
  pub made : C.made new ≡ C.made old
  pub loan : C.loan new ≡ C.loan old

-- a call over cells and a desk that does this, up to what becomes of a quantity that is handed on: it goes to the readings that are open then
pub record Turns {S E : Type 0} (C : Ghosts S) (act : Config → Performed) (result : Result Closed E) (new : S) (desk_new : Desk) (old : S) (desk_old : Desk) : Type 0 where
  pub narrows : (p : Setting) → C.agrees new p → C.agrees old p
  pub passes : IfOk result (λ closed. Passes C act (λ c. handed_on closed (internal_given c.readings) c) new desk_new old desk_old)
  pub made : C.made new ≡ C.made old
  pub loan : C.loan new ≡ C.loan old

-- a test of two tokens is given one
abbrev pub pair_given : Option Meaning → Tok → Pairing → Option ℕ → Config → Performed
pair_given m tok pairing None c = kept (reading.Codes pairing (Some (seen_as pairing tok m))) [] c
pair_given m tok pairing (Some first) c = decided (chosen (pair_kind pairing) (pos first) (pos (seen_as pairing tok m))) c

-- what becomes of a number once the tokens behind it are put back
abbrev pub number_used : Purpose → ℤ → (Internal → Config → Performed) → Config → Performed
number_used Roman n more c = in_form_or (in_form form.LowerRoman n) c
number_used (Left compared) n more c = opened_uncounted (reading.Relation compared n) c
number_used (Right compared left rel) n more c = decided (chosen (comparison compared rel) left n) c
number_used Odd n more c = decided (chosen IfOdd n (pos 0)) c
number_used Case n more c = decided (chosen IfCase n (pos 0)) c
number_used (Index i) n more c = index_closed i (picks n) more c
number_used purpose n more c = stopped TokenMisplaced c

-- the control sequence of this name is made `\relax` where it has no meaning
abbrev pub relax_if : List ℕ → Option Meaning → Config → Performed
relax_if name m c =
    if is_some m then on c
    else record {
      done = record { went = On; next = record c { cells = assigned Local (cell.Word name) (value.Meaning (meaning.Row command.Relax)) c.cells } };
      noted = option_map (notes_assigned Local (cell.Word name));
    }

-- a quantity that has still to be read
abbrev pub more_read : Internal → Config → Performed
more_read (Picked i) c = opened (reading.Scan scan_kind.Number (Index i)) c
more_read i c = word_opened CounterValue c
