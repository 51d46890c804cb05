use Rattle.std.proofs.Common.{◌++◌}
use Rattle.lb_base.specs.declared.token.Tok.{Tok}
use Rattle.lb_model.specs.Configs.{Config, looks_of_meaning}
use Rattle.lb_model.specs.Same.{same_meaning}
use Rattle.lb_model_expansion.specs.Expansion.{decided, meaning_of_token}
use Rattle.lb_model_expansion.specs.Steps.{Performed, looking, token_taken}
use Rattle.lb_model_grammar.specs.Conditionals.{if_true}
use Rattle.lb_expand.specs.Tokens.{behind_taken}
use Rattle.lb_expand.proofs.PassLemmas.{passes-as, performs-after, performs-passed}
use Rattle.lb_expand.proofs.feeder.Feeder.compare_meanings.Goals as goal

-- what is done with the first token
next : Tok → Config → Performed
next first d =
    token_taken d
    (λ second e. looking (looks_of_meaning first ++ looks_of_meaning second) (decided (if_true (same_meaning (meaning_of_token e first) (meaning_of_token e second))) e))

pub returns-in-Stops-clause-performs : goal.returns-in-Stops-clause-performs
unfolding next
returns-in-Stops-clause-performs g c =
    let e = c.in_ok-went.ensures in
    performs-passed e.told.narrows (passes-as (λ t. behind_taken t next) c.in-Stops.is (e.taken next)) e.told.made e.told.loan

pub returns-in-Tok-clause-performs : goal.returns-in-Tok-clause-performs
unfolding next
returns-in-Tok-clause-performs g c =
    let e = c.in_ok-went.ensures in
    performs-after c.compare_with.result e.told.narrows (passes-as (λ t. behind_taken t next) c.in-Tok.is (e.taken next)) e.told.made e.told.loan c.compare_with.ensures.performs
