-- A parameter text at the end of a text.
use Rattle.std.proofs.Common.{◌≡◌, ◌∷◌, [], Bool, true, false, ℕ, List, refl}
use Rattle.lb_base.specs.declared.fault.Kind.TheVariants.{Runaway}
use Rattle.lb_base.specs.declared.token.Tok.{Tok}
use Rattle.lb_model_engine.specs.Definitions.{parameter_text}
use Rattle.lb_model_grammar.specs.declared.given.Given.TheVariants.{End as AnEnd}
use Rattle.lb_model_grammar.specs.Scans.Meant.{Wrong}

pub text-end : (marked : Bool) (n : ℕ) (toks : List Tok) → parameter_text marked n toks (AnEnd ∷ []) ≡ Wrong Runaway
text-end true n toks = refl
text-end false n toks = refl
