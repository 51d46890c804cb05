-- What stands behind an opening bracket.
use Rattle.std.specs.Prelude.{List, [], ◌∷◌, Option, true}
use Rattle.lb_base.specs.declared.token.Category.TheVariants as category
use Rattle.lb_base.specs.declared.token.Tok.{Tok}
use Rattle.lb_base.specs.declared.token.Tok.TheVariants as token
use Rattle.lb_model_grammar.specs.declared.given.Given.{Given}
use Rattle.lb_model_grammar.specs.Arguments.{delimited}
use Rattle.lb_model_grammar.specs.Scans.{Meant}
use Rattle.lb_model_engine.specs.Reads.{some_meant}

-- what has a reading has it as one that is there
abbrev pub some_of : {X : Type 0} → (List Given → Meant X) → List Given → Meant (Option X)
some_of m given = some_meant (m given)

-- the text up to the closing bracket
abbrev pub bracket_rest : List Given → Meant (List Tok)
bracket_rest given = delimited true (token.Char category.Other 93 ∷ []) 0 [] given
