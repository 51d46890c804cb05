-- The tokens of a list of what was given.
use Rattle.std.proofs.Common.{◌≡◌, List, [], ◌∷◌, map, refl, ap}
use Rattle.lb_base.specs.declared.token.Tok.{Tok}
use Rattle.lb_model_grammar.specs.declared.given.Given.TheVariants.{Tok as AToken}
use Rattle.lb_model_grammar.specs.Scans.{tokens_in}

pub tokens-given : (l : List Tok) → tokens_in (map AToken l) ≡ l
tokens-given [] = refl
tokens-given (x ∷ l) = ap (λ k. x ∷ k) (tokens-given l)
