-- Counters (source2e, file ltcounts): the cell `Counter` of a name has the number of a counter, `Counters` the counters of a checkpoint, and
-- `Resets` of a name the counters that a step of this one resets. All are set globally.
use Rattle.std.specs.Prelude.{◌++◌, ◌+ℤ◌, Bool, true, false, ℕ, ℤ, pos, List, [], ◌∷◌, map, codes, Option, None, Some, unwrap_or, if◌then◌else◌}
use Rattle.lb_base.specs.declared.fault.Kind.TheVariants.{AlreadyDefined, CounterTooLarge, NoCounter, Overflow}
use Rattle.lb_base.specs.declared.token.Category.TheVariants.{BeginGroup, EndGroup}
use Rattle.lb_base.specs.declared.token.Tok.{Tok}
use Rattle.lb_base.specs.declared.token.Tok.TheVariants.{Char, Word}
use Rattle.lb_values.specs.declared.cell.Cell.{Cell}
use Rattle.lb_values.specs.declared.cell.Cell.TheVariants.{Counter, Counters, Resets}
use Rattle.lb_values.specs.declared.meaning.MacroDef.{MacroDef}
use Rattle.lb_values.specs.declared.value.Form.{Form}
use Rattle.lb_values.specs.declared.value.Value.{Value}
use Rattle.lb_values.specs.declared.value.Value.TheVariants.{Names, Number}
use Rattle.lb_model.specs.declared.world.World.{World}
use Rattle.lb_model.specs.Forms.{in_form}
use Rattle.lb_model.specs.Kinds.{names_of}
use Rattle.lb_model.specs.Quantities.{counter_in}
use Rattle.lb_model.specs.Ranges.{is_number}
use Rattle.lb_model.specs.Settings.{State, look}
use Rattle.lb_model_grammar.specs.Printed.{printed}
use Rattle.lb_model_counters.specs.Effects.{Effect, answers, refuses, sets}

-- the names that a cell lists, none where it has no list
abbrev pub names_in : World → State → Cell → List (List ℕ)
names_in w s cell = unwrap_or (names_of (look w s cell)) []

abbrev pub numbered : List ℕ → ℤ → Cell × Value
numbered name n = (Counter name, Number n)

-- a list of names with one more
abbrev pub listed : Cell → List (List ℕ) → List ℕ → Cell × Value
listed cell names name = (cell, Names (names ++ name ∷ []))

-- ---- `\setcounter`

abbrev pub set_as : List ℕ → ℤ → Option ℤ → Effect Unit
set_as name n None = refuses (Counter name ∷ []) NoCounter
set_as name n (Some before) = sets (Counter name ∷ []) (numbered name n ∷ [])

-- a counter that is there is set to a number
unfoldable pub set_counter : List ℕ → ℤ → World → State → Effect Unit
set_counter name n w s = set_as name n (counter_in w s name)

-- ---- `\addtocounter`, and with resets `\stepcounter`

abbrev pub zeros : List (List ℕ) → List (Cell × Value)
zeros names = map (λ name. numbered name (pos 0)) names

-- the new number, and with resets 0 for each counter of its own list, but not for those of their lists
abbrev pub stepped : Bool → List ℕ → List (List ℕ) → ℤ → Effect Unit
stepped false name list n = sets (Counter name ∷ []) (numbered name n ∷ [])
stepped true name list n = sets (Counter name ∷ Resets name ∷ []) (numbered name n ∷ zeros list)

abbrev pub step_as : List ℕ → ℤ → Bool → List (List ℕ) → Option ℤ → Effect Unit
step_as name by resets list None = refuses (Counter name ∷ []) NoCounter
step_as name by resets list (Some n) = if is_number (n +ℤ by) then stepped resets name list (n +ℤ by) else refuses (Counter name ∷ []) Overflow

-- a number is added to a counter that is there
unfoldable pub step_counter : List ℕ → ℤ → Bool → World → State → Effect Unit
step_counter name by resets w s = step_as name by resets (names_in w s (Resets name)) (counter_in w s name)

-- ---- `\arabic`, `\roman`, `\Roman`, `\alph` and `\Alph`

abbrev pub printed_as : List ℕ → Option (List ℕ) → Effect (List ℕ)
printed_as name None = refuses (Counter name ∷ []) CounterTooLarge
printed_as name (Some text) = answers (Counter name ∷ []) text

abbrev pub print_as : List ℕ → Form → Option ℤ → Effect (List ℕ)
print_as name form None = refuses (Counter name ∷ []) NoCounter
print_as name form (Some n) = printed_as name (in_form form n)

-- the text of a counter that is there, in a form
unfoldable pub print_counter : List ℕ → Form → World → State → Effect (List ℕ)
print_counter name form w s = print_as name form (counter_in w s name)

-- ---- `\newcounter`

-- the counter is 0, and stands last in a checkpoint
abbrev pub begun : List ℕ → List (List ℕ) → List (Cell × Value)
begun name checkpoint = numbered name (pos 0) ∷ listed Counters checkpoint name ∷ []

-- a step of another counter, which has to be there, resets the new one too
abbrev pub begun_within : List ℕ → List ℕ → List (List ℕ) → List (List ℕ) → Option ℤ → Effect Unit
begun_within name within checkpoint list None = refuses (Counter name ∷ Counters ∷ Counter within ∷ []) NoCounter
begun_within name within checkpoint list (Some n) =
    sets (Counter name ∷ Counters ∷ Counter within ∷ Resets within ∷ []) (begun name checkpoint ++ listed (Resets within) list name ∷ [])

abbrev pub begun_as : List ℕ → Option (List ℕ) → World → State → Effect Unit
begun_as name None w s = sets (Counter name ∷ Counters ∷ []) (begun name (names_in w s Counters))
begun_as name (Some within) w s = begun_within name within (names_in w s Counters) (names_in w s (Resets within)) (counter_in w s within)

abbrev pub new_as : List ℕ → Option (List ℕ) → World → State → Option ℤ → Effect Unit
new_as name within w s None = begun_as name within w s
new_as name within w s (Some n) = refuses (Counter name ∷ []) AlreadyDefined

-- a counter that is not there yet; with another one, it is reset within that
unfoldable pub new_counter : List ℕ → Option (List ℕ) → World → State → Effect Unit
new_counter name within w s = new_as name within w s (counter_in w s name)

-- ---- The macro that prints a new counter

-- `\thew` of a counter w
abbrev pub printer_name : List ℕ → List ℕ
printer_name name = codes "the" ++ name

-- `\arabic{w}`
abbrev pub arabic : List ℕ → List Tok
arabic name = Word (codes "arabic") ∷ Char BeginGroup 123 ∷ printed name ++ Char EndGroup 125 ∷ []

unfoldable pub printer : List ℕ → MacroDef
printer name = record { pattern = record { long = false; first = None; tokens = [] }; body = arabic name }
