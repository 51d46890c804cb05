-- When two tokens are one.
use Rattle.std.specs.Prelude.{Bool}
use Rattle.lb_base.specs.declared.token.Tok.{Tok}
use Rattle.lb_base.specs.contracts.token.TokPartialEq.TheImpl as token_test

unfoldable pub tok_eq : Tok → Tok → Bool
tok_eq = (token_test.ghosts).eq
