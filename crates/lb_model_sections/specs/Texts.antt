-- The tokens of texts that are known, under the categories of the start with `@` a letter (TeXbook, chapter 8).
use Rattle.std.specs.Prelude.{◌==◌, ℕ, zero, suc, List, [], ◌∷◌, length, Option, Some, None, unwrap_or, if◌then◌else◌}
use Rattle.lb_base.specs.declared.token.Category.{Category}
use Rattle.lb_base.specs.declared.token.Category.TheVariants as category
use Rattle.lb_base.specs.declared.token.Tok.{Tok}
use Rattle.lb_model.specs.declared.reading.Read.{Read}
use Rattle.lb_model.specs.declared.reading.Read.TheVariants as read
use Rattle.lb_model.specs.declared.reading.ReaderState.{ReaderState}
use Rattle.lb_model.specs.declared.reading.ReaderState.TheVariants.{NewLine}
use Rattle.lb_model.specs.StartState.{start_category}
use Rattle.lb_model.specs.Tokens.{next_token}

abbrev pub written_category : ℕ → Category
written_category code = if code == 64 then category.Letter else start_category code

abbrev pub token_before : Tok → Option (List Tok) → Option (List Tok)
token_before tok (Some toks) = Some (tok ∷ toks)
token_before tok None = None

abbrev pub tokens_behind : Option Read → (Option (List Tok)) → Option (List Tok)
tokens_behind None more = None
tokens_behind (Some read.EndOfLine) more = Some []
tokens_behind (Some (read.Tok tok)) more = token_before tok more

abbrev pub tokens_within : ℕ → ReaderState → List ℕ → Option (List Tok)
tokens_within zero state text = Some []
tokens_within (suc n) state text =
    let t = next_token written_category state text in tokens_behind t.read (let more = tokens_within n t.state t.rest in more)

-- the tokens of a text, without an end of a line; None where a character is invalid
unfoldable pub tokens_of_text : List ℕ → Option (List Tok)
tokens_of_text text = tokens_within (suc (length text)) NewLine text

-- tokens of a text that is known
abbrev pub toks : List ℕ → List Tok
toks text = unwrap_or (tokens_of_text text) []
