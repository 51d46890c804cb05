-- The tokens of a register that `\\the` prints.
use Rattle.std.proofs.Common.{◌≡◌, ◌∷◌, List, [], false, refl}
use Rattle.lb_base.specs.declared.token.Tok.{Tok}
use Rattle.lb_model.specs.Configs.{Config, Reading}
use Rattle.lb_model_expansion.specs.Expansion.{tokens_met}
use Rattle.lb_model_expansion.specs.Steps.{Performed, is_body, put}
use Rattle.lb_expand.specs.Opens.{is_body_first}
use Rattle.std.specs.Prelude.{Bool, true, if◌then◌else◌}

if-false : (b : Bool) (p q : Performed) → b ≡ false → (if b then p else q) ≡ q
if-false true p q e = cc
if-false false p q e = refl

-- no body is innermost
pub tokens-put : (toks : List Tok) (readings : List Reading) (c : Config) → is_body_first readings ≡ false → tokens_met toks readings c ≡ put toks c
tokens-put toks [] c e = refl
tokens-put toks (r ∷ readings) c e = if-false (is_body r.kind) _ _ e
