-- What a token makes of the reading of a token whose meaning a name gets.
use Rattle.std.proofs.Common.{◌≡◌, ◌∙◌, ◌∷◌, List, ap, true, false}
use Rattle.std.specs.Prelude.{if◌then◌else◌}
use Rattle.lb_base.specs.declared.token.Tok.{Tok}
use Rattle.lb_model_engine.specs.Definitions.{behind_equals, first_given, let_source}
use Rattle.lb_model_grammar.specs.declared.given.Given.{Given}
use Rattle.lb_model_grammar.specs.declared.given.Given.TheVariants.{Tok as AToken}
use Rattle.lb_model_grammar.specs.Scans.{is_other, is_space}
use Rattle.lb_model_grammar.specs.Scans.Meant.{Ended}

pub equals-space : (t : Tok) (given : List Given) → is_space t ≡ true → behind_equals (AToken t ∷ given) ≡ first_given given
equals-space t given e = ap (λ b. if b then first_given given else Ended t given) e

pub equals-other : (t : Tok) (given : List Given) → is_space t ≡ false → behind_equals (AToken t ∷ given) ≡ Ended t given
equals-other t given e = ap (λ b. if b then first_given given else Ended t given) e

pub let-space : (t : Tok) (given : List Given) → is_space t ≡ true → let_source (AToken t ∷ given) ≡ let_source given
let-space t given e = ap (λ b. if b then let_source given else (if is_other 61 t then behind_equals given else Ended t given)) e

pub let-equals : (t : Tok) (given : List Given) → is_space t ≡ false → is_other 61 t ≡ true → let_source (AToken t ∷ given) ≡ behind_equals given
let-equals t given e f =
    ap (λ b. if b then let_source given else (if is_other 61 t then behind_equals given else Ended t given)) e
    ∙ ap (λ b. if b then behind_equals given else Ended t given) f

pub let-other : (t : Tok) (given : List Given) → is_space t ≡ false → is_other 61 t ≡ false → let_source (AToken t ∷ given) ≡ Ended t given
let-other t given e f =
    ap (λ b. if b then let_source given else (if is_other 61 t then behind_equals given else Ended t given)) e
    ∙ ap (λ b. if b then behind_equals given else Ended t given) f
