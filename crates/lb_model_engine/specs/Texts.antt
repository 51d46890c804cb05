-- Texts that are expanded or changed: `\typeout`, `\uppercase`, and what other rows expand (TeXbook, chapters 20 and 24; tex.web, part 49, section
-- 1288; source2e, file ltfiles).
use Rattle.std.specs.Prelude.{◌++◌, ◌==◌, Bool, true, false, ℕ, zero, suc, nat_lt, List, [], ◌∷◌, length, map, flat_map, Option, Some, None, if◌then◌else◌}
use Rattle.lb_base.specs.declared.fault.Kind.TheVariants.{DepthLimit, Invalid, StepLimit}
use Rattle.lb_base.specs.declared.token.Category.{Category}
use Rattle.lb_base.specs.declared.token.Category.TheVariants as category
use Rattle.lb_base.specs.declared.token.Tok.{Tok}
use Rattle.lb_base.specs.declared.token.Tok.TheVariants as token
use Rattle.lb_values.specs.declared.cell.Cell.{Cell}
use Rattle.lb_model_grammar.specs.Arguments.{closes, opens}
use Rattle.lb_model.specs.declared.append.Append.TheVariants as append
use Rattle.lb_model.specs.declared.reading.Read.{Read}
use Rattle.lb_model.specs.declared.reading.Read.TheVariants as read
use Rattle.lb_model.specs.declared.reading.ReaderState.{ReaderState}
use Rattle.lb_model.specs.declared.reading.ReaderState.TheVariants.{NewLine}
use Rattle.lb_model.specs.Kinds.{code_of}
use Rattle.lb_model.specs.StartState.{start_category}
use Rattle.lb_model.specs.Tokens.{next_token}
use Rattle.lb_model_journal.specs.declared.event.Event.TheVariants as event
use Rattle.lb_model_journal.specs.LogLines.{log_line}
use Rattle.lb_model_engine.specs.Reads.{argument, next, put_closed}
use Rattle.lb_model_nest.specs.Wholes.{Executed, Whole, and_then, appended, looking, on, put, stop, tells}

-- ---- Expanded texts

-- one token list has no more than a million tokens
abbrev pub one_more : List Tok → Tok → (List Tok → Whole → Executed) → Whole → Executed
one_more toks tok row w = if nat_lt (length toks) 1000000 then row (toks ++ tok ∷ []) w else stop DepthLimit w

abbrev pub closing_text : ℕ → List Tok → Tok → (ℕ → List Tok → Whole → Executed) → (List Tok → Whole → Executed) → Whole → Executed
closing_text zero toks tok more row w = row toks w
closing_text (suc level) toks tok more row w = one_more toks tok (more level) w

abbrev pub in_text : Bool → Bool → ℕ → List Tok → Tok → (ℕ → List Tok → Whole → Executed) → (List Tok → Whole → Executed) → Whole → Executed
in_text true closing level toks tok more row w = one_more toks tok (more (suc level)) w
in_text false true level toks tok more row w = closing_text level toks tok more row w
in_text false false level toks tok more row w = one_more toks tok (more level) w

-- the tokens that are not expanded, up to the brace that closes the text; what `\the` gives is expanded too
abbrev pub text_within : ℕ → ℕ → List Tok → (List Tok → Whole → Executed) → Whole → Executed
text_within zero level toks row w = stop StepLimit w
text_within (suc turns) level toks row w =
    next (λ tok m v. in_text (opens tok) (closes tok) level toks tok (λ l ts u. text_within turns l ts row u) row v) w

-- each token takes a step, so the steps are enough
unfoldable pub text_rest : (List Tok → Whole → Executed) → Whole → Executed
text_rest row w = text_within (suc w.feed.left) 0 [] row w

-- tokens are put back with a brace behind them, and expanded up to that
abbrev pub expanded_text : List Tok → (List Tok → Whole → Executed) → Whole → Executed
expanded_text toks row w = and_then (put_closed toks w) (text_rest row)

-- `\typeout`: the text goes to the log
abbrev pub typed_out : List Tok → Whole → Executed
typed_out toks w = on (appended (append.Log (log_line (event.Typeout toks))) w)

unfoldable pub typeout : Whole → Executed
typeout w = argument (λ toks v. expanded_text toks typed_out v) w

-- ---- `\uppercase` and `\lowercase`

-- a code that has no other form stays
abbrev pub form_or : ℕ → ℕ → ℕ
form_or code form = if form == 0 then code else form

abbrev pub changed_code : (ℕ → Cell) → Whole → ℕ → ℕ
changed_code form w code = form_or code (code_of (tells w (form code)))

abbrev pub changed_token : (ℕ → Cell) → Whole → Tok → Tok
changed_token form w (token.Char cat code) = token.Char cat (changed_code form w code)
changed_token form w (token.Active code) = token.Active (changed_code form w code)
changed_token form w tok = tok

abbrev pub form_cells : (ℕ → Cell) → Tok → List Cell
form_cells form (token.Char cat code) = form code ∷ []
form_cells form (token.Active code) = form code ∷ []
form_cells form tok = []

abbrev pub case_changed : (ℕ → Cell) → List Tok → Whole → Executed
case_changed form toks w = looking (flat_map (form_cells form) toks) (put (map (changed_token form w) toks) w)

-- the codes of characters have the forms of these cells; the tokens are put back
unfoldable pub changecase : (ℕ → Cell) → Whole → Executed
changecase form w = argument (λ toks v. case_changed form toks v) w

-- ---- Tokens of texts that were written

-- the categories of the start, with `@` a letter
abbrev pub written_category : ℕ → Category
written_category code = if code == 64 then category.Letter else start_category code

abbrev pub token_before : Tok → Option (List Tok) → Option (List Tok)
token_before tok (Some toks) = Some (tok ∷ toks)
token_before tok None = None

abbrev pub tokens_behind : Option Read → (Option (List Tok)) → Option (List Tok)
tokens_behind None more = None
tokens_behind (Some read.EndOfLine) more = Some []
tokens_behind (Some (read.Tok tok)) more = token_before tok more

abbrev pub tokens_within : ℕ → ReaderState → List ℕ → Option (List Tok)
tokens_within zero state text = Some []
tokens_within (suc n) state text =
    let t = next_token written_category state text in tokens_behind t.read (let more = tokens_within n t.state t.rest in more)

-- the tokens of a text, without an end of a line; None where a character is invalid
unfoldable pub tokens_of_text : List ℕ → Option (List Tok)
tokens_of_text text = tokens_within (suc (length text)) NewLine text

abbrev pub tokens_put : Option (List Tok) → Whole → Executed
tokens_put None w = stop Invalid w
tokens_put (Some toks) w = put toks w

abbrev pub text_put : List ℕ → Whole → Executed
text_put text w = tokens_put (tokens_of_text text) w
