-- A token that was taken, and what is done with it.
use Rattle.lb_base.specs.declared.token.Tok.{Tok}
use Rattle.lb_model.specs.Configs.{Config}
use Rattle.lb_model_expansion.specs.Steps.{Performed, performed}
use Rattle.lb_expand.specs.declared.taking.Taken.{Taken}
use Rattle.lb_expand.specs.declared.taking.Taken.TheVariants as taken

-- this is done with a token, where one came
abbrev pub behind_taken : Taken → (Tok → Config → Performed) → Config → Performed
behind_taken (taken.Tok tok) next c = next tok c
behind_taken (taken.Stops went) next c = performed went c
