-- What a reading keeps stands for all that it was given: whatever comes yet, they mean the same.
use Rattle.std.specs.Prelude.{◌≡◌, ◌++◌, ◌≤◌, ℕ, List, [], ◌∷◌, length}
use Rattle.lb_base.specs.declared.fault.Kind.{Kind}
use Rattle.lb_base.specs.declared.token.Tok.{Tok}
use Rattle.lb_model_grammar.specs.declared.given.Given.{Given}
use Rattle.lb_model_grammar.specs.Scans.{Meant}
use Rattle.lb_model_grammar.specs.Scans.Meant.{Ended, Wrong}
use Rattle.lb_model_grammar.specs.Words.{body, file_name, word}
use Rattle.lb_words.specs.Rest.{without_rest}
use Rattle.lb_words.specs.declared.body.Stage.{Stage}
use Rattle.lb_words.specs.declared.body.Stage.TheVariants as stage

-- so many braces are open in a text of characters
pub record WordStands (given : List Given) (level : ℕ) (text : List ℕ) : Type 0 where
  pub more : (more : List Given) → word 0 [] (given ++ more) ≡ word level text more
  pub level_at_most : level ≤ length text

pub record FileStands (given : List Given) (text : List ℕ) : Type 0 where
  pub more : (more : List Given) → file_name [] (given ++ more) ≡ file_name text more

-- what comes of a body at a stage
abbrev pub body_after : Stage → List Tok → List Given → Meant (List Tok)
body_after (stage.Open level) toks more = without_rest (body level toks more)
body_after stage.Ended toks more = Ended toks []
body_after (stage.Wrong kind) toks more = Wrong kind

-- a body that has come to a stage with one token more, which is of it where it is open
abbrev pub body_with : Stage → List Tok → Tok → List Given → Meant (List Tok)
body_with (stage.Open level) toks t more = body level (toks ++ t ∷ []) more
body_with stage.Ended toks t more = Ended toks more
body_with (stage.Wrong kind) toks t more = Wrong kind

-- there are no more braces than tokens
abbrev pub levels_in : Stage → ℕ
levels_in (stage.Open level) = level
levels_in stage.Ended = 0
levels_in (stage.Wrong kind) = 0

pub record BodyStands (given : List Given) (stage : Stage) (toks : List Tok) : Type 0 where
  pub more : (more : List Given) → without_rest (body 0 [] (given ++ more)) ≡ body_after stage toks more
  pub level_at_most : levels_in stage ≤ length toks
