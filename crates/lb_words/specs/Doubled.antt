-- The tokens of a register in the body of `\edef`.
use Rattle.std.specs.Prelude.{List, [], ◌∷◌}
use Rattle.lb_base.specs.declared.token.Category.TheVariants as category
use Rattle.lb_base.specs.declared.token.Tok.{Tok}
use Rattle.lb_base.specs.declared.token.Tok.TheVariants.{Char}

-- each parameter character twice
abbrev pub doubled : List Tok → List Tok
doubled [] = []
doubled (Char category.Parameter code ∷ toks) = Char category.Parameter code ∷ Char category.Parameter code ∷ doubled toks
doubled (t ∷ toks) = t ∷ doubled toks
