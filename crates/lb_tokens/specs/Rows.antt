-- Lines worked out by hand, which the definition has to give.
use Rattle.std.specs.Prelude.{ℕ, zero, suc, List, [], ◌∷◌, ◌++◌, Option, Some}
use Rattle.lb_base.specs.declared.token.Category.{Category}
use Rattle.lb_base.specs.declared.token.Category.TheVariants.{Letter, Space}
use Rattle.lb_base.specs.declared.token.Tok.TheVariants.{Char, Word}
use Rattle.lb_model.specs.declared.reading.Read.{Read}
use Rattle.lb_model.specs.declared.reading.Read.TheVariants.{Tok, EndOfLine}
use Rattle.lb_model.specs.declared.reading.ReaderState.{ReaderState}
use Rattle.lb_model.specs.declared.reading.ReaderState.TheVariants.{NewLine}
use Rattle.lb_model.specs.StartState.{start_category}
use Rattle.lb_model.specs.Tokens.{next_token}

-- what is read of a text, n times one behind another
abbrev pub reads : ℕ → (ℕ → Category) → ReaderState → List ℕ → List (Option Read)
reads zero cats state text = []
reads (suc n) cats state text = let t = next_token cats state text in t.read ∷ reads n cats t.state t.rest

-- what is read of a whole line, which ends with code 13, by the categories of the start
abbrev pub reads_of_line : ℕ → List ℕ → List (Option Read)
reads_of_line n line = reads n start_category NewLine (line ++ 13 ∷ [])

abbrev pub letter : ℕ → Option Read
letter code = Some (Tok (Char Letter code))

abbrev pub space : Option Read
space = Some (Tok (Char Space 32))

abbrev pub word : List ℕ → Option Read
word name = Some (Tok (Word name))

abbrev pub the_end : Option Read
the_end = Some EndOfLine
