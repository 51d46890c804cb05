-- What the turns of readings answer.
use Rattle.std.specs.Prelude.{◌≡◌, ℕ, List, [], ◌∷◌}
use Rattle.lb_base.specs.declared.token.Tok.{Tok}
use Rattle.lb_model_grammar.specs.declared.given.Given.{Given}
use Rattle.lb_model_grammar.specs.declared.given.Want.TheVariants as want
use Rattle.lb_model_grammar.specs.Scans.{Meant}
use Rattle.lb_model_grammar.specs.Scans.Meant.{Open, Ended, Wrong}
use Rattle.lb_words.specs.declared.body.BodyTurn.{BodyTurn}
use Rattle.lb_words.specs.declared.body.BodyTurn.TheVariants as body_turn
use Rattle.lb_words.specs.declared.file.FileTurn.{FileTurn}
use Rattle.lb_words.specs.declared.file.FileTurn.TheVariants as file_turn
use Rattle.lb_words.specs.declared.word.WordTurn.{WordTurn}
use Rattle.lb_words.specs.declared.word.WordTurn.TheVariants as word_turn

-- what a list means, as the turn at its last token says it; nothing stands behind the end
abbrev pub word_turned : WordTurn → Meant (List ℕ)
word_turned (word_turn.Open text) = Open want.Expanded
word_turned (word_turn.Ended text) = Ended text []
word_turned (word_turn.Wrong kind) = Wrong kind

-- a text that goes on was given this
abbrev pub WordGoesOn : List Given → WordTurn → Type 0
WordGoesOn given (word_turn.Open text) = text ≡ given
WordGoesOn given turn = Unit {0}

abbrev pub file_turned : FileTurn → Meant (List ℕ)
file_turned (file_turn.Open text) = Open want.Expanded
file_turned (file_turn.Ended text) = Ended text []
file_turned (file_turn.EndedBefore text given) = Ended text (given ∷ [])

abbrev pub FileGoesOn : List Given → FileTurn → Type 0
FileGoesOn given (file_turn.Open text) = text ≡ given
FileGoesOn given turn = Unit {0}

abbrev pub body_turned : BodyTurn → Meant (List Tok)
body_turned (body_turn.Open text) = Open want.Expanded
body_turned (body_turn.Ended toks) = Ended toks []
body_turned (body_turn.Wrong kind) = Wrong kind

abbrev pub BodyGoesOn : List Given → BodyTurn → Type 0
BodyGoesOn given (body_turn.Open text) = text ≡ given
BodyGoesOn given turn = Unit {0}
