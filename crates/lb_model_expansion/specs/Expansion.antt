-- Steps of expansion (TeXbook, chapter 20; tex.web, parts 25 to 28): what each command that is expanded does, and what becomes of what is read.
use Rattle.std.specs.Prelude.{◌++◌, ◌^◌, Bool, true, false, ℕ, zero, suc, ℤ, pos, negsuc, nat_lt, List, [], ◌∷◌, map, length, codes, drop, Option, Some, None, is_some, unwrap_or, if◌then◌else◌}
use Rattle.std.specs.Option.{option_map}
use Rattle.std.specs.Fmt.{signed_decimal}
use Rattle.lb_base.specs.declared.fault.Kind.TheVariants as kind
use Rattle.lb_base.specs.declared.token.Category.TheVariants as category
use Rattle.lb_base.specs.declared.token.Tok.{Tok}
use Rattle.lb_base.specs.declared.token.Tok.TheVariants.{Char, Word, Active}
use Rattle.lb_rows.specs.declared.command.Command.TheVariants as command
use Rattle.lb_values.specs.Categories.{category_code}
use Rattle.lb_values.specs.declared.cell.Cell.TheVariants as cell
use Rattle.lb_values.specs.declared.meaning.MacroDef.{MacroDef}
use Rattle.lb_values.specs.declared.meaning.Meaning.{Meaning}
use Rattle.lb_values.specs.declared.meaning.Meaning.TheVariants as meaning
use Rattle.lb_values.specs.declared.reach.Reach.TheVariants.{Local}
use Rattle.lb_values.specs.declared.value.Form.{Form}
use Rattle.lb_values.specs.declared.value.Form.TheVariants as form
use Rattle.lb_values.specs.declared.value.Value.TheVariants as value
use Rattle.lb_model_grammar.specs.declared.condition.Branch.{Branch}
use Rattle.lb_model_grammar.specs.declared.condition.Branch.TheVariants as branch
use Rattle.lb_model_grammar.specs.declared.condition.CondKind.{CondKind}
use Rattle.lb_model_grammar.specs.declared.condition.CondKind.TheVariants.{If, IfCat, IfOdd, IfCase}
use Rattle.lb_model_grammar.specs.declared.condition.Rel.{Rel}
use Rattle.lb_model_grammar.specs.declared.condition.Rel.TheVariants.{Less, Equal, Greater}
use Rattle.lb_model_grammar.specs.declared.condition.Sought.{Sought}
use Rattle.lb_model_grammar.specs.declared.condition.Sought.TheVariants.{Any, Nth, End as SoughtEnd}
use Rattle.lb_model_grammar.specs.declared.condition.Stopper.{Stopper}
use Rattle.lb_model_grammar.specs.declared.condition.Stopper.TheVariants.{Or, Fi}
use Rattle.lb_model_grammar.specs.declared.given.Given.{Given}
use Rattle.lb_model_grammar.specs.declared.given.Given.TheVariants.{Tok as AToken, Quantity as AQuantity, End as AnEnd}
use Rattle.lb_model_grammar.specs.declared.given.Quantity.{Quantity}
use Rattle.lb_model_grammar.specs.declared.given.Quantity.TheVariants as quantity
use Rattle.lb_model_grammar.specs.declared.given.ScanKind.{ScanKind}
use Rattle.lb_model_grammar.specs.declared.given.ScanKind.TheVariants as scan_kind
use Rattle.lb_model_grammar.specs.declared.given.Scanned.{Scanned}
use Rattle.lb_model_grammar.specs.declared.given.Scanned.TheVariants as scanned
use Rattle.lb_model_grammar.specs.declared.given.Want.{Want}
use Rattle.lb_model_grammar.specs.declared.given.Want.TheVariants as want
use Rattle.lb_model_grammar.specs.Arguments.{group, opens, substituted, undelimited}
use Rattle.lb_model_grammar.specs.Conditionals.{chosen, if_true}
use Rattle.lb_model_grammar.specs.Dimensions.{meant}
use Rattle.lb_model_grammar.specs.Printed.{characters_of, printed, quantity_text}
use Rattle.lb_model_grammar.specs.Scans.{Meant, is_other, is_space, tokens_in}
use Rattle.lb_model_grammar.specs.Scans.Meant.{Open, Ended, Wrong}
use Rattle.lb_model_grammar.specs.Words.{body, character_code, file_name, is_character, with_ending, word}
use Rattle.lb_model.specs.declared.append.Append.TheVariants.{Log}
use Rattle.lb_model.specs.declared.expandable.Expandable.{Expandable}
use Rattle.lb_model.specs.declared.expandable.Expandable.TheVariants.{ExpandAfter, NoExpand, CsName, String, Number, RomanNumeral, The, JobName, Test, Part, Input, EndInput, Print, ThePage}
use Rattle.lb_model.specs.declared.expandable.TestKind.{TestKind}
use Rattle.lb_model.specs.declared.expandable.TestKind.TheVariants as test
use Rattle.lb_model.specs.declared.open.Compared.{Compared}
use Rattle.lb_model.specs.declared.open.Compared.TheVariants.{Numbers, Dimensions}
use Rattle.lb_model.specs.declared.open.Conditional.{Conditional}
use Rattle.lb_model.specs.declared.open.Conditional.TheVariants.{Deciding, Then, Case}
use Rattle.lb_model.specs.declared.open.Indexed.{Indexed}
use Rattle.lb_model.specs.declared.open.Indexed.TheVariants as indexed
use Rattle.lb_model.specs.declared.open.Pairing.{Pairing}
use Rattle.lb_model.specs.declared.open.Pairing.TheVariants.{Codes, Categories}
use Rattle.lb_model.specs.declared.open.Purpose.{Purpose}
use Rattle.lb_model.specs.declared.open.Purpose.TheVariants.{Asked, Digits, Roman, Left, Right, Odd, Case as Cases, Index, Print as PrintCounter, CounterValue, Input as InputFile}
use Rattle.lb_model.specs.declared.open.ReadingKind.{ReadingKind}
use Rattle.lb_model.specs.declared.open.ReadingKind.TheVariants as reading
use Rattle.lb_model.specs.declared.place.Got.{Got}
use Rattle.lb_model.specs.declared.place.Got.TheVariants.{Tok as GotTok, End as GotEnd, Fault as GotFault}
use Rattle.lb_model.specs.declared.place.Mode.{Mode}
use Rattle.lb_model.specs.declared.place.Mode.TheVariants.{Vertical}
use Rattle.lb_model.specs.Arguments.{arguments, looks_arguments}
use Rattle.lb_model.specs.Conditionals.{comparison, decided_as, inside, looks_skipped, may_end, passed, skipped}
use Rattle.lb_model.specs.Configs.{Config, Reading, in_file, looks_by, looks_in_file, looks_of_meaning, meaning_now, taken_by}
use Rattle.lb_model.specs.Expandables.{expandable}
use Rattle.lb_model.specs.Forms.{in_form}
use Rattle.lb_model.specs.Kinds.{form_of, name_of}
use Rattle.lb_model.specs.Kinds as held
use Rattle.lb_model.specs.Lines.{is_empty}
use Rattle.lb_model.specs.Meanings.{is_control, token_meaning, undefined}
use Rattle.lb_model.specs.PresentFont.{font_chosen, font_file_now, font_text_now, looks_of_font}
use Rattle.lb_model.specs.Quantities.{Internal, counter_in, indexed_cell, internal_in, looks_internal, picked}
use Rattle.lb_model.specs.Quantities.Internal.{Known, Tokens, Picked}
use Rattle.lb_model.specs.Readings.{looks_taken, taken}
use Rattle.lb_model.specs.Same.{same_meaning}
use Rattle.lb_model.specs.Settings.{look}
use Rattle.lb_model.specs.Sources.{ended_early, text_of, texts}
use Rattle.lb_model.specs.Sources.Item.{Text}
use Rattle.lb_model.specs.Stacked.{StackedNotes, assigned, notes_assigned}
use Rattle.lb_model_paper.specs.FoundFonts.{Broken, FontFound, Found, Missing, font_found}
use Rattle.lb_model_paper.specs.Fonts.{FontData}
use Rattle.lb_model_paper.specs.Texts.{log_file}
use Rattle.lb_model_expansion.specs.declared.expansion.Answer.TheVariants as answer
use Rattle.lb_model_expansion.specs.declared.expansion.Went.{Went}
use Rattle.lb_model_expansion.specs.declared.expansion.Went.TheVariants.{On, Gave, Answered, Over, Stopped}
use Rattle.lb_model_expansion.specs.Steps.{Performed, Step, and_then, answered, ends_pass, is_body, looking, on, performed, put, put_then, stopped, stopped_in, token_taken, with_outcome}

-- ---- Readings that open

-- the readings that are counted: what tests take counts with their conditionals, and bodies and the quantities of tokens are none
abbrev pub is_counted : ReadingKind → Bool
is_counted (reading.Codes pairing first) = false
is_counted (reading.Relation compared left) = false
is_counted reading.Body = false
is_counted reading.Quantity = false
is_counted r = true

abbrev pub counted : List Reading → ℕ
counted [] = 0
counted (r ∷ readings) = if is_counted r.kind then suc (counted readings) else counted readings

abbrev pub with_reading : ReadingKind → List Given → Config → Config
with_reading r given c = record c { readings = record { kind = r; given = given } ∷ c.readings }

-- where one more reading may be open
abbrev pub if_room : (Config → Performed) → Config → Performed
if_room act c = if nat_lt (counted c.readings) 10000 then act c else stopped kind.DepthLimit c

-- a reading that is not counted, or for which there is room
abbrev pub opened_uncounted : ReadingKind → Config → Performed
opened_uncounted r c = on (with_reading r [] c)

abbrev pub opened : ReadingKind → Config → Performed
opened r c = if_room (opened_uncounted r) c

-- a text in braces: it is put back with a brace behind it, and expanded up to that
abbrev pub word_behind : List Tok → Purpose → Config → Performed
word_behind toks purpose c = and_then (put (toks ++ Char category.EndGroup 125 ∷ []) c) (opened_uncounted (reading.Word purpose))

abbrev pub word_taken : Purpose → Config → Performed
word_taken purpose c =
    with_outcome (taken in_file (undelimited true) c) (looks_taken in_file looks_in_file (undelimited true) c) (λ toks d. word_behind toks purpose d)

abbrev pub word_opened : Purpose → Config → Performed
word_opened purpose c = if_room (word_taken purpose) c

-- ---- Conditionals

abbrev pub with_conditionals : List Conditional → Config → Config
with_conditionals conditionals c = record c { conditionals = conditionals }

-- what follows a stop in skipped text: `\fi` closes the conditional, `\else` begins its last part, and `\or` what this says
abbrev pub stopped_at : Stopper → Performed → Config → Performed
stopped_at Or at_or c = at_or
stopped_at stopper at_or c = on (with_conditionals (passed stopper c.conditionals) c)

-- those inside the one whose condition is read are given up: their ends are in the text that is skipped
abbrev pub without_inside : Config → Config
without_inside c = with_conditionals (drop (inside c.conditionals) c.conditionals) c

-- text is skipped, and then the stop is met
abbrev pub skipping : ℕ → Sought → Config → (Stopper → Config → Performed) → Performed
skipping level sought c next = with_outcome (skipped level sought c) (looks_skipped level sought c) next

-- a false test: text is skipped up to `\else` or `\fi`
abbrev pub skipped_false : Config → Performed
skipped_false c = skipping (inside c.conditionals) Any (without_inside c) (λ stopper d. stopped_at stopper (stopped kind.ExtraFi d) d)

-- `\ifcase`: text is skipped past so many `\or`, or where that is 0 past all of them
abbrev pub skipped_case : ℕ → Config → Performed
skipped_case n c =
    skipping (inside c.conditionals) (Nth n) (without_inside c) (λ stopper d. stopped_at stopper (on (with_conditionals (passed Or d.conditionals) d)) d)

-- behind a part that was read: text is skipped up to `\fi`
abbrev pub skipped_rest : Config → Performed
skipped_rest c = skipping 0 SoughtEnd c (λ stopper d. on (with_conditionals (passed Fi d.conditionals) d))

-- `\ifcase` of a number: its first part at 0, none below
abbrev pub case_of : ℤ → Config → Performed
case_of (pos zero) c = on (with_conditionals (decided_as Case c.conditionals) c)
case_of (pos (suc n)) c = skipped_case (suc n) c
case_of (negsuc n) c = skipped_case 0 c

-- the part that a test chose is read from now on
abbrev pub decided : Branch → Config → Performed
decided branch.Then c = on (with_conditionals (decided_as Then c.conditionals) c)
decided branch.Otherwise c = skipped_false c
decided (branch.Part n) c = case_of n c

-- two tokens, not expanded, that mean the same
abbrev pub meaning_of_token : Config → Tok → Option Meaning
meaning_of_token c tok = token_meaning c.world c.cells.now tok

abbrev pub meanings_compared : Config → Performed
meanings_compared c =
    token_taken c
    (
    λ first d.
    token_taken d
    (
    λ second e.
    looking (looks_of_meaning first ++ looks_of_meaning second) (decided (if_true (same_meaning (meaning_of_token e first) (meaning_of_token e second))) e)
    )
    )

abbrev pub is_vertical : Mode → Bool
is_vertical Vertical = true
is_vertical mode = false

abbrev pub is_horizontal : Mode → Bool
is_horizontal Vertical = false
is_horizontal mode = true

-- what a conditional does first
abbrev pub test_begun : TestKind → Config → Performed
test_begun (test.Codes pairing) c = opened_uncounted (reading.Codes pairing None) c
test_begun test.Meanings c = meanings_compared c
test_begun (test.Compare Numbers) c = opened (reading.Scan scan_kind.Number (Left Numbers)) c
test_begun (test.Compare Dimensions) c = opened (reading.Scan scan_kind.Dimen (Left Dimensions)) c
test_begun test.Odd c = opened (reading.Scan scan_kind.Number Odd) c
test_begun test.Case c = opened (reading.Scan scan_kind.Number Cases) c
test_begun test.Vertical c = decided (if_true (is_vertical c.mode)) c
test_begun test.Horizontal c = decided (if_true (is_horizontal c.mode)) c
test_begun test.True c = decided branch.Then c
test_begun test.False c = decided branch.Otherwise c

abbrev pub test_opened : TestKind → Config → Performed
test_opened t c =
    if nat_lt (length c.conditionals) 10000 then test_begun t (with_conditionals (Deciding ∷ c.conditionals) c) else stopped kind.DepthLimit c

-- `\or`, `\else` and `\fi`: while the condition is read a `\relax` comes before; else a part ends, if it may end so
abbrev pub part_ended : Stopper → Config → Performed
part_ended Fi c = on (with_conditionals (passed Fi c.conditionals) c)
part_ended stopper c = skipped_rest c

abbrev pub part_left : Stopper → Conditional → Config → Performed
part_left stopper part c = if may_end stopper part then part_ended stopper c else stopped kind.ExtraFi c

abbrev pub part_met : Stopper → Tok → List Conditional → Config → Performed
part_met stopper tok [] c = stopped kind.ExtraFi c
part_met stopper tok (Deciding ∷ conditionals) c = put (Word (codes "relax") ∷ tok ∷ []) c
part_met stopper tok (part ∷ conditionals) c = part_left stopper part c

-- ---- The present font, for the units that are its quad and its x-height

abbrev pub present_font : Config → FontFound
present_font c = font_found (font_text_now c) (font_chosen c).0 (font_chosen c).1

abbrev pub font_length : Want → FontData → ℤ
font_length want.Ex font = font.parameters.x_height
font_length asked font = font.parameters.quad

-- ---- What becomes of what is read

-- what becomes of a quantity: it goes to the innermost reading, which asked for it
abbrev pub as_text : Option (List ℕ) → Config → Performed
as_text (Some text) c = put (printed text) c
as_text None c = stopped kind.TokenMisplaced c

-- a register or a code is picked by a number of 0 to 255
abbrev pub picks : ℤ → Option ℕ
picks (pos n) = if nat_lt n 256 then Some n else None
picks (negsuc n) = None

-- `\csname`: the control sequence, which is made `\relax` where it has no meaning
abbrev pub relax_made : List ℕ → Config → Performed
relax_made name c =
    if is_some (meaning_now c (Word name)) then on c
    else record {
      done = record { went = On; next = record c { cells = assigned Local (cell.Word name) (value.Meaning (meaning.Row command.Relax)) c.cells } };
      noted = option_map (notes_assigned Local (cell.Word name));
    }

abbrev pub named : List ℕ → Config → Performed
named name c = looking (cell.Word name ∷ []) (and_then (relax_made name c) (put (Word name ∷ [])))

-- `\input`: a file of the world is read next, and its name goes to the log
abbrev pub input_of : Option (List ℕ) → List ℕ → Config → Performed
input_of None file c = stopped kind.FileMissing c
input_of (Some bytes) file c =
    if nat_lt (texts c.source) 101
    then on (record c { source = Text (text_of file 1 bytes) ∷ c.source; appends = c.appends ++ Log (log_file file) ∷ [] })
    else stopped kind.DepthLimit c

abbrev pub input : List ℕ → Config → Performed
input name c =
    let file = with_ending name in looking (cell.File file ∷ []) (input_of (held.text_of (look c.world c.cells.now (cell.File file))) file c)

-- a counter is printed in a form
abbrev pub in_form_or : Option (List ℕ) → Config → Performed
in_form_or (Some text) c = put (printed text) c
in_form_or None c = stopped kind.CounterTooLarge c

abbrev pub counter_form : Form → Option ℤ → Config → Performed
counter_form f (Some n) c = in_form_or (in_form f n) c
counter_form f None c = stopped kind.NoCounter c

abbrev pub counter_printed : Form → List ℕ → Config → Performed
counter_printed f name c = looking (cell.Counter name ∷ []) (counter_form f (counter_in c.world c.cells.now name) c)

-- the number that was read, or the dimension
abbrev pub number_found : Scanned → ℤ
number_found (scanned.Number n) = n
number_found (scanned.Dimen n) = n
number_found found = pos 0

-- a quantity is picked, and handed to the reading that asked for it
abbrev pub index_closed : Indexed → Option ℕ → (Internal → Config → Performed) → Config → Performed
index_closed i (Some n) more c = looking (indexed_cell i n ∷ []) (more (picked c.world c.cells.now i n) c)
index_closed i None more c = stopped kind.BadCode c

-- tokens behind what was read are put back; then this becomes of it
abbrev pub scan_closed : Purpose → Scanned → List Tok → (Internal → Config → Performed) → Config → Performed
scan_closed Asked found after more c = put_then after (Answered (answer.Scanned found)) c
scan_closed Digits found after more c = put (printed (signed_decimal (number_found found)) ++ after) c
scan_closed Roman found after more c = and_then (put after c) (in_form_or (in_form form.LowerRoman (number_found found)))
scan_closed (Left compared) found after more c = and_then (put after c) (opened_uncounted (reading.Relation compared (number_found found)))
scan_closed (Right compared left rel) found after more c = and_then (put after c) (decided (chosen (comparison compared rel) left (number_found found)))
scan_closed Odd found after more c = and_then (put after c) (decided (chosen IfOdd (number_found found) (pos 0)))
scan_closed Cases found after more c = and_then (put after c) (decided (chosen IfCase (number_found found) (pos 0)))
scan_closed (Index i) found after more c = and_then (put after c) (index_closed i (picks (number_found found)) more)
scan_closed purpose found after more c = stopped kind.TokenMisplaced c

-- the innermost reading goes on with what it was given
abbrev pub kept : ReadingKind → List Given → Config → Performed
kept r given c = on (with_reading r given c)

-- what a scan was given means; the quantity that begins with the token that was given last is this
abbrev pub scan_as : Meant Scanned → ScanKind → Purpose → List Given → (Want → Performed) → (Internal → Config → Performed) → Config → Performed
scan_as (Open want.Expanded) k purpose given asked more c = kept (reading.Scan k purpose) given c
scan_as (Open want.Plain) k purpose given asked more c = kept (reading.Scan k purpose) given c
scan_as (Open w) k purpose given asked more c = asked w
scan_as (Ended found rest) k purpose given asked more c = scan_closed purpose found (tokens_in rest) more c
scan_as (Wrong kind) k purpose given asked more c = stopped kind c

-- a scan is given a quantity
abbrev pub scan_quantity : ScanKind → Purpose → List Given → Quantity → (Internal → Config → Performed) → Config → Performed
scan_quantity k purpose given q more c =
    let all = given ++ AQuantity q ∷ [] in scan_as (meant k all) k purpose all (λ asked. stopped kind.NumberMissing c) more c

abbrev pub font_size : FontFound → Want → ScanKind → Purpose → List Given → (Internal → Config → Performed) → Config → Performed
font_size (Found font) asked k purpose given more c = scan_quantity k purpose given (quantity.Dimen (font_length asked font)) more c
font_size Missing asked k purpose given more c = stopped kind.FontMissing c
font_size (Broken word) asked k purpose given more c = stopped_in (font_file_now c) word c

-- an expanded text; the name of a file; a text in braces
abbrev pub body_met : Meant (List Tok) → List Given → Config → Performed
body_met (Open w) given c = kept reading.Body given c
body_met (Ended toks rest) given c = answered (answer.Body toks) c
body_met (Wrong kind) given c = stopped kind c

abbrev pub file_met : Meant (List ℕ) → List Given → Config → Performed
file_met (Open asked) given c = kept reading.File given c
file_met (Ended name rest) given c = and_then (put (tokens_in rest) c) (input name)
file_met (Wrong kind) given c = stopped kind c

abbrev pub counter_value : Option ℤ → (Internal → Config → Performed) → Config → Performed
counter_value (Some n) more c = more (Known (quantity.Number n)) c
counter_value None more c = stopped kind.NoCounter c

abbrev pub word_closed : Purpose → List ℕ → (Internal → Config → Performed) → Config → Performed
word_closed Asked name more c = answered (answer.Word name) c
word_closed (PrintCounter f) name more c = counter_printed f name c
word_closed CounterValue name more c = looking (cell.Counter name ∷ []) (counter_value (counter_in c.world c.cells.now name) more c)
word_closed InputFile name more c = input name c
word_closed purpose name more c = stopped kind.TokenMisplaced c

abbrev pub word_met : Meant (List ℕ) → Purpose → List Given → (Internal → Config → Performed) → Config → Performed
word_met (Open asked) purpose given more c = kept (reading.Word purpose) given c
word_met (Ended name rest) purpose given more c = word_closed purpose name more c
word_met (Wrong kind) purpose given more c = stopped kind c

-- ---- Quantities go to the reading that asks for them

-- `\the` of a token register: its tokens, which the body of `\edef` takes as they are
abbrev pub doubled : List Tok → List Tok
doubled [] = []
doubled (Char category.Parameter code ∷ toks) = Char category.Parameter code ∷ Char category.Parameter code ∷ doubled toks
doubled (t ∷ toks) = t ∷ doubled toks

abbrev pub tokens_met : List Tok → List Reading → Config → Performed
tokens_met toks [] c = put toks c
tokens_met toks (r ∷ readings) c =
    if is_body r.kind then on (record c { readings = record { kind = reading.Body; given = r.given ++ map AToken (doubled toks) } ∷ readings }) else put toks c

-- a token register is no quantity; its number is read for `\the` alone
abbrev pub is_tokens : Indexed → Bool
is_tokens indexed.Toks = true
is_tokens i = false

-- a quantity that has still to be read for this reading
abbrev pub more_to_read : Internal → ReadingKind → List Given → Config → Performed
more_to_read (Picked i) r given c = opened (reading.Scan scan_kind.Number (Index i)) (with_reading r given c)
more_to_read i r given c = word_opened CounterValue (with_reading r given c)

-- a scan, `\the`, or the caller asks for what begins with a token
abbrev pub internal_to : ReadingKind → List Given → Internal → (Internal → Config → Performed) → Config → Performed
internal_to (reading.Scan k purpose) given (Known q) more c = scan_quantity k purpose given q more c
internal_to (reading.Scan k purpose) given (Tokens toks) more c = scan_quantity k purpose given quantity.NotOne more c
internal_to (reading.Scan k purpose) given (Picked i) more c =
    if is_tokens i then scan_quantity k purpose given quantity.NotOne more c else more_to_read (Picked i) (reading.Scan k purpose) given c
internal_to reading.The given (Known q) more c = as_text (quantity_text q) c
internal_to reading.The given (Tokens toks) more c = tokens_met toks c.readings c
internal_to reading.Quantity given (Known q) more c = answered (answer.Quantity q) c
internal_to reading.Quantity given (Tokens toks) more c = answered (answer.Quantity quantity.NotOne) c
internal_to reading.Quantity given (Picked i) more c =
    if is_tokens i then answered (answer.Quantity quantity.NotOne) c else more_to_read (Picked i) reading.Quantity given c
internal_to r given i more c = more_to_read i r given c

abbrev pub internal_given : List Reading → Internal → Config → Performed
internal_given [] i c = stopped kind.TokenMisplaced c
internal_given (r ∷ readings) i c = internal_to r.kind r.given i (internal_given readings) (record c { readings = readings })

-- the quantity that begins with a token of this meaning goes to a reading
abbrev pub internal_met : Option Meaning → ReadingKind → List Given → (Internal → Config → Performed) → Config → Performed
internal_met m r given more c = looking (looks_internal m) (internal_to r given (internal_in c.world c.cells.now m) more c)

-- ---- Tokens that are not expanded

-- the code and the category of a token as `\if` and `\ifcat` see it: an active character that would be expanded is itself
abbrev pub is_expanded : Option Meaning → Bool
is_expanded None = true
is_expanded (Some (meaning.Macro definition)) = true
is_expanded (Some (meaning.Row row)) = is_some (expandable row)
is_expanded meaning = false

abbrev pub control_code : Option Meaning → ℕ
control_code (Some (meaning.Char cat code)) = code
control_code meaning = 256

abbrev pub control_category : Option Meaning → ℕ
control_category (Some (meaning.Char cat code)) = category_code cat
control_category meaning = 16

abbrev pub seen_as : Pairing → Tok → Option Meaning → ℕ
seen_as Codes (Char cat code) m = code
seen_as Codes (Active code) m = if is_expanded m then code else control_code m
seen_as Codes tok m = control_code m
seen_as Categories (Char cat code) m = category_code cat
seen_as Categories (Active code) m = if is_expanded m then 13 else control_category m
seen_as Categories tok m = control_category m

abbrev pub pair_kind : Pairing → CondKind
pair_kind Codes = If
pair_kind Categories = IfCat

-- `<`, `=` or `>`
abbrev pub relation_of : Tok → Option Rel
relation_of t = if is_other 60 t then Some Less else (if is_other 61 t then Some Equal else (if is_other 62 t then Some Greater else None))

abbrev pub side_kind : Compared → ScanKind
side_kind Numbers = scan_kind.Number
side_kind Dimensions = scan_kind.Dimen

abbrev pub relation_met : Option Rel → Compared → ℤ → Config → Performed
relation_met (Some rel) compared left c = opened (reading.Scan (side_kind compared) (Right compared left rel)) c
relation_met None compared left c = stopped kind.TokenMisplaced c

abbrev pub ends_name : Option Meaning → Bool
ends_name (Some (meaning.Row command.EndCsName)) = true
ends_name meaning = false

-- what a scan asks for: the quantity of a token, or a size of the present font
abbrev pub asked_of : Want → Option Meaning → ScanKind → Purpose → List Given → (Internal → Config → Performed) → Config → Performed
asked_of want.Quantity m k purpose all more c = internal_met m (reading.Scan k purpose) all more c
asked_of asked m k purpose all more c = looking (looks_of_font c) (font_size (present_font c) asked k purpose all more c)

-- the name of a file begins behind spaces: no name ends at the first of them
abbrev pub file_ended : List ℕ → List Given → List Given → Config → Performed
file_ended name [] all c = if is_empty name then kept reading.File [] c else file_met (Ended name []) all c
file_ended name (g ∷ rest) all c = file_met (Ended name (g ∷ rest)) all c

abbrev pub file_given : Meant (List ℕ) → List Given → Config → Performed
file_given (Ended name rest) all c = file_ended name rest all c
file_given met all c = file_met met all c

abbrev pub scan_token : Option Meaning → ScanKind → Purpose → List Given → (Internal → Config → Performed) → Config → Performed
scan_token m k purpose all more c = scan_as (meant k all) k purpose all (λ asked. asked_of asked m k purpose all more c) more c

-- a token of this meaning goes to a reading, which was taken from the configuration
abbrev pub handed_to : Option Meaning → Tok → ReadingKind → List Given → (Internal → Config → Performed) → Config → Performed
handed_to m tok (reading.Scan k purpose) given more c = scan_token m k purpose (given ++ AToken tok ∷ []) more c
handed_to m tok (reading.Word purpose) given more c = let all = given ++ AToken tok ∷ [] in word_met (word 0 [] all) purpose all more c
handed_to m tok reading.Name given more c =
    if ends_name m then named (map character_code (tokens_in given)) c
    else (if is_character tok then kept reading.Name (given ++ AToken tok ∷ []) c else stopped kind.TokenMisplaced c)
handed_to m tok reading.File given more c = let all = given ++ AToken tok ∷ [] in file_given (file_name [] all) all c
handed_to m tok reading.Body given more c = let all = given ++ AToken tok ∷ [] in body_met (body 0 [] all) all c
handed_to m tok (reading.Codes pairing None) given more c = kept (reading.Codes pairing (Some (seen_as pairing tok m))) [] c
handed_to m tok (reading.Codes pairing (Some first)) given more c = decided (chosen (pair_kind pairing) (pos first) (pos (seen_as pairing tok m))) c
handed_to m tok (reading.Relation compared left) given more c =
    if is_space tok then kept (reading.Relation compared left) [] c else relation_met (relation_of tok) compared left c
handed_to m tok reading.Quantity given more c = stopped kind.TokenMisplaced c
handed_to m tok (reading.After t) given more c = put (t ∷ tok ∷ []) c
handed_to m tok (reading.Held t) given more c = put (t ∷ tok ∷ []) c
handed_to m tok reading.The given more c = internal_met m reading.The given more c

abbrev pub handed : Option Meaning → Tok → List Reading → Config → Performed
handed m tok [] c = performed (Gave tok) c
handed m tok (r ∷ readings) c = handed_to m tok r.kind r.given (internal_given readings) (record c { readings = readings })

-- ---- The end of the piece

abbrev pub end_met : ReadingKind → List Given → (Internal → Config → Performed) → Config → Performed
end_met (reading.Scan k purpose) given more c = scan_token None k purpose (given ++ AnEnd ∷ []) more c
end_met r given more c = stopped kind.Runaway c

abbrev pub at_end : List Reading → Config → Performed
at_end [] c = performed Over c
at_end (r ∷ readings) c = end_met r.kind r.given (internal_given readings) (record c { readings = readings })

-- ---- Commands

abbrev pub is_held_as : ReadingKind → Bool
is_held_as (reading.Held t) = true
is_held_as r = false

abbrev pub is_held : List Reading → Bool
is_held [] = false
is_held (r ∷ readings) = is_held_as r.kind

-- `\noexpand`: the token goes on unexpanded; where `\expandafter` expands it, it stays
abbrev pub not_expanded : Tok → Config → Performed
not_expanded row c =
    if is_held c.readings then put (row ∷ []) c else token_taken c (λ tok d. looking (looks_of_meaning tok) (handed (meaning_now d tok) tok d.readings d))

-- the first token that is no space
abbrev pub first_token : List Given → Meant Tok
first_token [] = Open want.Plain
first_token (AToken t ∷ given) = if is_space t then first_token given else Ended t given
first_token (g ∷ given) = Wrong kind.Runaway

-- `\input`: the name stands in braces, or ends at a space
abbrev pub input_met : Tok → Config → Performed
input_met t c =
    if opens t
    then with_outcome (taken in_file (group true 0 []) c) (looks_taken in_file looks_in_file (group true 0 []) c) (λ toks d. word_behind toks InputFile d)
    else and_then (put (t ∷ []) c) (opened_uncounted reading.File)

abbrev pub input_begun : Config → Performed
input_begun c =
    let passes = ends_pass c.readings in
    with_outcome (taken (taken_by passes) first_token c) (looks_taken (taken_by passes) (looks_by passes) first_token c) input_met

-- `\expandafter` holds the next token
abbrev pub next_held : Config → Performed
next_held c = token_taken c (λ tok d. opened_uncounted (reading.After tok) d)

abbrev pub job_name : Config → List ℕ
job_name c = unwrap_or (name_of (look c.world c.cells.now cell.Job)) []

-- `\thepage`: the counter page in its form
abbrev pub page_printed : Config → Performed
page_printed c =
    looking (cell.PageForm ∷ []) (counter_printed (unwrap_or (form_of (look c.world c.cells.now cell.PageForm)) form.Arabic) (codes "page") c)

abbrev pub expanded : Expandable → Tok → Config → Performed
expanded ExpandAfter row c = if_room next_held c
expanded NoExpand row c = not_expanded row c
expanded CsName row c = opened reading.Name c
expanded String row c = token_taken c (λ tok d. put (printed (characters_of tok)) d)
expanded Number row c = opened (reading.Scan scan_kind.Number Digits) c
expanded RomanNumeral row c = opened (reading.Scan scan_kind.Number Roman) c
expanded The row c = opened reading.The c
expanded JobName row c = looking (cell.Job ∷ []) (put (printed (job_name c)) c)
expanded (Test t) row c = test_opened t c
expanded (Part stopper) row c = part_met stopper row c.conditionals c
expanded Input row c = if_room input_begun c
expanded EndInput row c = on (record c { source = ended_early c.source })
expanded (Print f) row c = word_opened (PrintCounter f) c
expanded ThePage row c = page_printed c

-- a macro with its arguments
abbrev pub macro_expanded : MacroDef → Config → Performed
macro_expanded definition c =
    with_outcome (arguments definition.pattern c) (looks_arguments definition.pattern c) (λ xs d. put (substituted xs definition.body) d)

-- the innermost `\expandafter` has its token expanded
abbrev pub held_as : ReadingKind → ReadingKind
held_as (reading.After t) = reading.Held t
held_as r = r

abbrev pub held_first : List Reading → List Reading
held_first [] = []
held_first (r ∷ readings) = record r { kind = held_as r.kind } ∷ readings

abbrev pub holding : Config → Config
holding c = record c { readings = held_first c.readings }

-- a token of this meaning
abbrev pub row_met : Option Expandable → Option Meaning → Tok → Config → Performed
row_met (Some row) m tok c = expanded row tok (holding c)
row_met None m tok c = handed m tok c.readings c

abbrev pub met_as : Option Meaning → Tok → Config → Performed
met_as (Some (meaning.Macro definition)) tok c = macro_expanded definition (holding c)
met_as (Some (meaning.Row row)) tok c = row_met (expandable row) (Some (meaning.Row row)) tok c
met_as None tok c = if is_control tok then stopped (undefined tok) c else handed None tok c.readings c
met_as m tok c = handed m tok c.readings c

-- whether the innermost reading wants a token as it is
abbrev pub is_plain : Meant Scanned → Bool
is_plain (Open want.Plain) = true
is_plain other = false

abbrev pub wants_plain_as : ReadingKind → List Given → Bool
wants_plain_as (reading.Scan k purpose) given = is_plain (meant k given)
wants_plain_as r given = false

abbrev pub wants_plain : List Reading → Bool
wants_plain [] = false
wants_plain (r ∷ readings) = wants_plain_as r.kind r.given

abbrev pub token_met : Tok → Config → Performed
token_met tok c = if wants_plain c.readings then handed None tok c.readings c else looking (looks_of_meaning tok) (met_as (meaning_now c tok) tok c)

abbrev pub got_met : Got → Config → Performed
got_met (GotTok tok) c = token_met tok c
got_met GotEnd c = if ends_pass c.readings then at_end c.readings c else stopped kind.Runaway c
got_met (GotFault kind) c = stopped kind c

-- ---- Steps

-- an `\expandafter` whose expansion is done puts its token before what came of it
abbrev pub resume_as : ReadingKind → (Tok → Performed) → Performed → Performed
resume_as (reading.Held t) held other = held t
resume_as r held other = other

abbrev pub resume : List Reading → Config → Performed
resume [] c = on c
resume (r ∷ readings) c = resume_as r.kind (λ t. and_then (put (t ∷ []) (record c { readings = readings })) (resume readings)) (on c)

abbrev pub resumed : Performed → Performed
resumed p = and_then p (λ c. resume c.readings c)

-- a step of expansion
unfoldable pub step : Config → Performed
step c =
    let passes = ends_pass c.readings in
    let t = taken_by passes c in
    looking (looks_by passes c) (resumed (got_met t.got t.next))

-- ---- Steps to the next that does not go on

abbrev pub or_more : Went → Step → Step → Step
or_more On step more = more
or_more went step more = step

abbrev pub or_noted : Went → Option StackedNotes → Option StackedNotes → Option StackedNotes
or_noted On n more = more
or_noted went n more = n

-- within so many turns; a turn that goes on takes a step, but for that of an end
unfoldable pub next_from : ℕ → Config → Step
next_from zero c = record { went = Stopped kind.StepLimit; next = c }
next_from (suc turns) c = let p = step c in or_more p.done.went p.done (let more = next_from turns p.done.next in more)

unfoldable pub noted_from : ℕ → Config → Option StackedNotes → Option StackedNotes
noted_from zero c n = n
noted_from (suc turns) c n = let p = step c in or_noted p.done.went (p.noted n) (let more = noted_from turns p.done.next (p.noted n) in more)

-- ---- What a caller asks for

-- more than the steps and the readings that can be open together
abbrev pub most_turns : ℕ
most_turns = 2 ^ 70

-- the next token that is not expanded, or what else ends the turns
unfoldable pub next : Config → Step
next c = next_from most_turns c

unfoldable pub next_noted : Config → Option StackedNotes → Option StackedNotes
next_noted c n = noted_from most_turns c n

abbrev pub ran : Config → Performed
ran c = record { done = next c; noted = next_noted c }

-- a number, a dimension, glue or a keyword
abbrev pub scan_asked : ScanKind → Config → Performed
scan_asked k c = and_then (opened (reading.Scan k Asked) c) ran

-- the quantity that begins with a token
abbrev pub quantity_met : Tok → Config → Performed
quantity_met tok c = looking (looks_of_meaning tok) (internal_met (meaning_now c tok) reading.Quantity [] (internal_given c.readings) c)

abbrev pub quantity_asked : Tok → Config → Performed
quantity_asked tok c = and_then (quantity_met tok c) ran

-- a text in braces, expanded to characters
abbrev pub word_asked : Config → Performed
word_asked c = and_then (word_opened Asked c) ran

-- a text behind its opening brace, expanded
abbrev pub body_asked : Config → Performed
body_asked c = and_then (opened_uncounted reading.Body c) ran
