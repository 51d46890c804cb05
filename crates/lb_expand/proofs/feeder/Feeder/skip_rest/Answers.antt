use Rattle.std.proofs.Common.{ap}
use Rattle.lb_model.specs.Conditionals.{looks_skipped, passed, skipped}
use Rattle.lb_model.specs.Configs.{Config}
use Rattle.lb_model_grammar.specs.declared.condition.Sought.TheVariants.{End}
use Rattle.lb_model_grammar.specs.declared.condition.Stopper.{Stopper}
use Rattle.lb_model_grammar.specs.declared.condition.Stopper.TheVariants.{Fi}
use Rattle.lb_model_expansion.specs.Expansion.{with_conditionals}
use Rattle.lb_model_expansion.specs.Steps.{Performed, on}
use Rattle.lb_expand.proofs.PassLemmas.{at-fault, read-performs, read-stops}
use Rattle.lb_expand.proofs.feeder.Feeder.skip_rest.Goals as goal

-- what follows the stop
next : Stopper → Config → Performed
next stopper d = on (with_conditionals (passed Fi d.conditionals) d)

pub returns-in-Ok-clause-performs : goal.returns-in-Ok-clause-performs
unfolding next
returns-in-Ok-clause-performs g c =
    let C = g.C.Cells in
    let sought = End in
    let r = c.in-Ok.ensures.reads in
    read-performs C (skipped 0 sought) (looks_skipped 0 sought) next c.in-Ok._stopper c.close_conditional.result
    (record { narrows = r.narrows; reads = r.ok; stands = r.stands; groups = ap (λ o. o.groups) r.origin; made = ap (λ o. o.made) r.origin; loan = ap (λ o. o.inner) r.origin })
    c.close_conditional.ensures.performs

pub returns-in-Err-Fault-clause-performs : goal.returns-in-Err-Fault-clause-performs
unfolding next
returns-in-Err-Fault-clause-performs g c =
    let C = g.C.Cells in
    let sought = End in
    let r = c.in-Err-Fault.ensures.reads in
    read-stops C (skipped 0 sought) (looks_skipped 0 sought) next c.in-Err-Fault.kind
    (record { narrows = r.narrows; reads = at-fault _ _ c.in-Err-Fault.kind c.in-Err-Fault.field-0-is r.fault; stands = r.stands; groups = ap (λ o. o.groups) r.origin; made = ap (λ o. o.made) r.origin; loan = ap (λ o. o.inner) r.origin })
