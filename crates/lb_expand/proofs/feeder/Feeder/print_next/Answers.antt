use Rattle.lb_base.specs.declared.token.Tok.{Tok}
use Rattle.lb_model.specs.Configs.{Config}
use Rattle.lb_model_grammar.specs.Printed.{characters_of, printed}
use Rattle.lb_model_expansion.specs.Steps.{put}
use Rattle.lb_model_expansion.specs.Steps.{Performed}
use Rattle.lb_expand.specs.Tokens.{behind_taken}
use Rattle.lb_expand.proofs.PassLemmas.{passes-as, performs-after, performs-passed}
use Rattle.lb_expand.proofs.feeder.Feeder.print_next.Goals as goal

-- what is done with the token
next : Tok → Config → Performed
next tok d = put (printed (characters_of tok)) d

pub returns-in-Stops-clause-performs : goal.returns-in-Stops-clause-performs
unfolding next
returns-in-Stops-clause-performs g c =
    let e = c.in_ok-went.ensures in
    performs-passed e.told.narrows (passes-as (λ t. behind_taken t next) c.in-Stops.is (e.taken next)) e.told.made e.told.loan

pub returns-in-Tok-clause-performs : goal.returns-in-Tok-clause-performs
unfolding next
returns-in-Tok-clause-performs g c =
    let e = c.in_ok-went.ensures in
    performs-after c.print_token.result e.told.narrows (passes-as (λ t. behind_taken t next) c.in-Tok.is (e.taken next)) e.told.made e.told.loan c.print_token.ensures.performs
