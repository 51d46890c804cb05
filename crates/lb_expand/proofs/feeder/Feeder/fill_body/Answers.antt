use Rattle.std.proofs.Common.{◌∙◌, ◌++◌, [], map, ap, sym}
use Rattle.std.specs.Prelude.{unwrap_or}
use Rattle.lb_model.specs.declared.open.ReadingKind.TheVariants as reading
use Rattle.lb_model_grammar.specs.declared.given.Given.TheVariants.{Tok as AToken}
use Rattle.lb_model_expansion.specs.Expansion.{doubled, kept}
use Rattle.lb_expand.proofs.PassLemmas.{performs-as}
use Rattle.lb_expand.proofs.feeder.Feeder.fill_body.Goals as goal

pub returns-in_ok-filled-in-Some-clause-performs : goal.returns-in_ok-filled-in-Some-clause-performs
returns-in_ok-filled-in-Some-clause-performs g c =
    performs-as (λ t. kept reading.Body (c.args.text ++ map AToken (doubled (unwrap_or t [])))) c.keep_body-in-Some.result c.in-Some.is
    (
    performs-as (λ given. kept reading.Body given) c.keep_body-in-Some.result
    (sym (c.in_ok-filled-in-Some.ensures ∙ ap (λ l. c.args.text ++ map AToken (doubled l)) (c.as_slice.ensures ∙ c.get.ensures))) c.keep_body-in-Some.ensures.performs
    )
