-- What rows read: tokens, numbers, dimensions, glue, keywords, texts in braces, and what may stand in brackets (TeXbook, chapters 20 and 24;
-- tex.web, part 26; source2e, file ltdefns). What is read is handed to what is done with it.
use Rattle.std.specs.Prelude.{◌++◌, Bool, true, false, ℕ, zero, suc, ℤ, List, [], ◌∷◌, Option, Some, None, if◌then◌else◌}
use Rattle.lb_base.specs.declared.fault.Kind.TheVariants.{BadCode, Runaway, StepLimit, TokenMisplaced}
use Rattle.lb_base.specs.declared.glue.Glue.{Glue}
use Rattle.lb_base.specs.declared.token.Category.TheVariants as category
use Rattle.lb_base.specs.declared.token.Tok.{Tok}
use Rattle.lb_base.specs.declared.token.Tok.TheVariants as token
use Rattle.lb_values.specs.declared.cell.Cell.{Cell}
use Rattle.lb_values.specs.declared.cell.Cell.TheVariants as cell
use Rattle.lb_values.specs.declared.meaning.Meaning.{Meaning}
use Rattle.lb_model_grammar.specs.declared.given.Given.{Given}
use Rattle.lb_model_grammar.specs.declared.given.Given.TheVariants.{Tok as AToken}
use Rattle.lb_model_grammar.specs.declared.given.ScanKind.{ScanKind}
use Rattle.lb_model_grammar.specs.declared.given.ScanKind.TheVariants as scan_kind
use Rattle.lb_model_grammar.specs.declared.given.Scanned.{Scanned}
use Rattle.lb_model_grammar.specs.declared.given.Scanned.TheVariants as scanned
use Rattle.lb_model_grammar.specs.declared.given.Want.TheVariants as want
use Rattle.lb_model_grammar.specs.Arguments.{closes, delimited, group, undelimited}
use Rattle.lb_model_grammar.specs.Scans.{Meant, is_other, is_space}
use Rattle.lb_model_grammar.specs.Scans.Meant.{Open, Ended, Wrong}
use Rattle.lb_model.specs.declared.place.Got.{Got}
use Rattle.lb_model.specs.declared.place.Got.TheVariants.{Tok as GotTok, End as GotEnd, Fault as GotFault}
use Rattle.lb_model.specs.Configs.{Config, Taking, in_file, looks_in_file, looks_of_meaning, looks_of_plain, plain}
use Rattle.lb_model.specs.Kinds.{no_glue}
use Rattle.lb_model.specs.Meanings.{token_meaning}
use Rattle.lb_model.specs.Readings.{Outcome, looks_taken, taken}
use Rattle.lb_model.specs.Readings.Outcome.{Failed, Whole as AWhole}
use Rattle.lb_model_expansion.specs.declared.expansion.Answer.{Answer}
use Rattle.lb_model_expansion.specs.declared.expansion.Answer.TheVariants as answer
use Rattle.lb_model_expansion.specs.declared.expansion.Went.{Went}
use Rattle.lb_model_expansion.specs.declared.expansion.Went.TheVariants.{On, Gave, Answered, Over, Stopped, StoppedAt}
use Rattle.lb_model_expansion.specs.Expansion.{body_asked, number_found, picks, ran, scan_asked, word_asked}
use Rattle.lb_model_expansion.specs.Steps.{Performed}
use Rattle.lb_model_nest.specs.Wholes.{Executed, Whole, and_then, behind, looking, put, stop, stop_at, with_feed}

-- ---- Tokens that are not expanded

-- what is done with a token; the end of the piece may not come in its place
abbrev pub got_to : Got → (Tok → Whole → Executed) → Whole → Executed
got_to (GotTok tok) row w = row tok w
got_to GotEnd row w = stop Runaway w
got_to (GotFault kind) row w = stop kind w

abbrev pub taking : (Tok → Whole → Executed) → Whole → Executed
taking row w = let t = plain w.feed in looking (looks_of_plain w.feed) (got_to t.got row (with_feed t.next w))

-- what is read of tokens, until they mean something
abbrev pub outcome_to : {X : Type 0} → Outcome X → (X → Whole → Executed) → Whole → Executed
outcome_to (AWhole x) row w = row x w
outcome_to (Failed kind) row w = stop kind w

abbrev pub reading_by : {X : Type 0} → (Config → Taking) → (Config → List Cell) → (List Given → Meant X) → (X → Whole → Executed) → Whole → Executed
reading_by take looks meant row w =
    let t = taken take meant w.feed in looking (looks_taken take looks meant w.feed) (outcome_to t.outcome row (with_feed t.next w))

-- no text may end in it
abbrev pub reading : {X : Type 0} → (List Given → Meant X) → (X → Whole → Executed) → Whole → Executed
reading meant row w = reading_by in_file looks_in_file meant row w

-- the ends of texts are passed
abbrev pub reading_on : {X : Type 0} → (List Given → Meant X) → (X → Whole → Executed) → Whole → Executed
reading_on meant row w = reading_by plain looks_of_plain meant row w

-- an argument without delimiter, which may have `\par`; and the rest of a group whose opening brace is taken
abbrev pub argument : (List Tok → Whole → Executed) → Whole → Executed
argument row w = reading (undelimited true) row w

abbrev pub group_rest : (List Tok → Whole → Executed) → Whole → Executed
group_rest row w = reading (group true 0 []) row w

-- a control sequence or an active character, as the cell of its meaning
abbrev pub control_to : Tok → (Cell → Whole → Executed) → Whole → Executed
control_to (token.Word name) row w = row (cell.Word name) w
control_to (token.Active code) row w = row (cell.Active code) w
control_to tok row w = stop TokenMisplaced w

abbrev pub control : (Cell → Whole → Executed) → Whole → Executed
control row w = taking (λ tok v. control_to tok row v) w

-- ---- What may come: a star, and a text in brackets. Spaces before are skipped

abbrev pub star : List Given → Meant Bool
star [] = Open want.Plain
star (AToken t ∷ given) = if is_space t then star given else (if is_other 42 t then Ended true given else Ended false (AToken t ∷ given))
star (g ∷ given) = Ended false (g ∷ given)

abbrev pub some_meant : {X : Type 0} → Meant X → Meant (Option X)
some_meant (Open w) = Open w
some_meant (Ended x rest) = Ended (Some x) rest
some_meant (Wrong kind) = Wrong kind

abbrev pub bracket : List Given → Meant (Option (List Tok))
bracket [] = Open want.Plain
bracket (AToken t ∷ given) =
    if is_space t then bracket given
    else (if is_other 91 t then some_meant (delimited true (token.Char category.Other 93 ∷ []) 0 [] given) else Ended None (AToken t ∷ given))
bracket (g ∷ given) = Ended None (g ∷ given)

-- ---- Tokens that are expanded

-- what is done with the next token that is not expanded, and what at the end of the piece
abbrev pub token_to : Went → (Tok → Whole → Executed) → (Whole → Executed) → Whole → Executed
token_to (Gave tok) row at_end w = row tok w
token_to Over row at_end w = at_end w
token_to (Stopped kind) row at_end w = stop kind w
token_to (StoppedAt fault) row at_end w = stop_at fault w
token_to On row at_end w = stop StepLimit w
token_to (Answered a) row at_end w = stop TokenMisplaced w

-- a token and what it means
abbrev pub meaning_to : (Tok → Option Meaning → Whole → Executed) → Tok → Whole → Executed
meaning_to row tok w = looking (looks_of_meaning tok) (row tok (token_meaning w.feed.world w.feed.cells.now tok) w)

abbrev pub next_or : (Whole → Executed) → (Tok → Option Meaning → Whole → Executed) → Whole → Executed
next_or at_end row w =
    let p = ran w.feed in behind p.noted (token_to p.done.went (λ tok v. meaning_to row tok v) at_end (with_feed p.done.next w))

-- behind spaces
abbrev pub past_spaces_in : ℕ → (Whole → Executed) → (Tok → Option Meaning → Whole → Executed) → Whole → Executed
past_spaces_in zero at_end row w = stop StepLimit w
past_spaces_in (suc turns) at_end row w =
    next_or at_end (λ tok m v. if is_space tok then past_spaces_in turns at_end row v else row tok m v) w

-- each token takes a step, so the steps are enough
unfoldable pub past_spaces_or : (Whole → Executed) → (Tok → Option Meaning → Whole → Executed) → Whole → Executed
past_spaces_or at_end row w = past_spaces_in (suc w.feed.left) at_end row w

-- the end of the piece may not come
abbrev pub next : (Tok → Option Meaning → Whole → Executed) → Whole → Executed
next row w = next_or (stop Runaway) row w

abbrev pub past_spaces : (Tok → Option Meaning → Whole → Executed) → Whole → Executed
past_spaces row w = past_spaces_or (stop Runaway) row w

-- `=`, which may be left out
abbrev pub equals : (Whole → Executed) → Whole → Executed
equals row w = past_spaces_or row (λ tok m v. if is_other 61 tok then row v else and_then (put (tok ∷ []) v) row) w

-- ---- What readings answer

-- what is done with an answer: up to it a reading is open, so nothing else but a fault comes
abbrev pub answer_to : Went → (Answer → Whole → Executed) → Whole → Executed
answer_to (Answered a) row w = row a w
answer_to (Stopped kind) row w = stop kind w
answer_to (StoppedAt fault) row w = stop_at fault w
answer_to On row w = stop StepLimit w
answer_to Over row w = stop Runaway w
answer_to (Gave tok) row w = stop TokenMisplaced w

abbrev pub asking : (Config → Performed) → (Answer → Whole → Executed) → Whole → Executed
asking asked row w = let p = asked w.feed in behind p.noted (answer_to p.done.went row (with_feed p.done.next w))

-- a scan is answered what it found, and so on; no other answer comes
abbrev pub scanned_to : Answer → (Scanned → Whole → Executed) → Whole → Executed
scanned_to (answer.Scanned found) row w = row found w
scanned_to a row w = stop TokenMisplaced w

abbrev pub word_to : Answer → (List ℕ → Whole → Executed) → Whole → Executed
word_to (answer.Word text) row w = row text w
word_to a row w = stop TokenMisplaced w

abbrev pub body_to : Answer → (List Tok → Whole → Executed) → Whole → Executed
body_to (answer.Body toks) row w = row toks w
body_to a row w = stop TokenMisplaced w

abbrev pub glue_found : Scanned → Glue
glue_found (scanned.Skip g) = g
glue_found found = no_glue

abbrev pub is_found : Scanned → Bool
is_found (scanned.Found found) = found
is_found found = false

abbrev pub scanning : ScanKind → (Scanned → Whole → Executed) → Whole → Executed
scanning k row w = asking (scan_asked k) (λ a v. scanned_to a row v) w

abbrev pub number : (ℤ → Whole → Executed) → Whole → Executed
number row w = scanning scan_kind.Number (λ found v. row (number_found found) v) w

abbrev pub dimension : (ℤ → Whole → Executed) → Whole → Executed
dimension row w = scanning scan_kind.Dimen (λ found v. row (number_found found) v) w

abbrev pub glue : (Glue → Whole → Executed) → Whole → Executed
glue row w = scanning scan_kind.Glue (λ found v. row (glue_found found) v) w

-- whether a keyword comes, which is taken then
abbrev pub keyword : List ℕ → (Bool → Whole → Executed) → Whole → Executed
keyword text row w = scanning (scan_kind.Keyword text) (λ found v. row (is_found found) v) w

-- a text in braces, expanded to characters; and a text behind its opening brace, expanded
abbrev pub characters : (List ℕ → Whole → Executed) → Whole → Executed
characters row w = asking word_asked (λ a v. word_to a row v) w

abbrev pub expanded_rest : (List Tok → Whole → Executed) → Whole → Executed
expanded_rest row w = asking body_asked (λ a v. body_to a row v) w

-- a register or a code: a number of 0 to 255
abbrev pub code_to : Option ℕ → (ℕ → Whole → Executed) → Whole → Executed
code_to (Some n) row w = row n w
code_to None row w = stop BadCode w

abbrev pub code : (ℕ → Whole → Executed) → Whole → Executed
code row w = number (λ n v. code_to (picks n) row v) w

-- ---- Quantities in arguments: only spaces may stand behind them

abbrev pub closing : (Whole → Executed) → Whole → Executed
closing row w = past_spaces (λ tok m v. if closes tok then row v else stop TokenMisplaced v) w

-- tokens are put back with a brace behind them, and read up to that
abbrev pub put_closed : List Tok → Whole → Executed
put_closed toks w = put (toks ++ token.Char category.EndGroup 125 ∷ []) w

abbrev pub number_in : List Tok → (ℤ → Whole → Executed) → Whole → Executed
number_in toks row w = and_then (put_closed toks w) (λ v. number (λ n u. closing (row n) u) v)

abbrev pub dimension_in : List Tok → (ℤ → Whole → Executed) → Whole → Executed
dimension_in toks row w = and_then (put_closed toks w) (λ v. dimension (λ n u. closing (row n) u) v)

abbrev pub glue_in : List Tok → (Glue → Whole → Executed) → Whole → Executed
glue_in toks row w = and_then (put_closed toks w) (λ v. glue (λ g u. closing (row g) u) v)
