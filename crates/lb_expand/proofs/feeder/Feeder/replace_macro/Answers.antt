use Rattle.std.proofs.Common.{Ok, ap, sym}
use Rattle.lb_values.specs.declared.meaning.MacroDef.{MacroDef}
use Rattle.lb_model.specs.Arguments.{arguments, looks_arguments}
use Rattle.lb_model.specs.Configs.{Config}
use Rattle.lb_model_grammar.specs.Arguments.{substituted}
use Rattle.lb_model_expansion.specs.Steps.{Performed, put, with_outcome}
use Rattle.lb_model_expansion.specs.declared.expansion.Went.TheVariants.{Stopped}
use Rattle.lb_expand.proofs.PassLemmas.{at-fault, performs-as, read-performs, read-stops}
use Rattle.lb_expand.proofs.feeder.Feeder.replace_macro.Goals as goal

-- what is done with the arguments of a macro, where they are read for this one
expanded : MacroDef → MacroDef → Config → Performed
expanded body of c = with_outcome (arguments of.pattern c) (looks_arguments of.pattern c) (λ xs d. put (substituted xs body.body) d)

pub returns-in-Ok-clause-performs : goal.returns-in-Ok-clause-performs
unfolding expanded
returns-in-Ok-clause-performs g c =
    let m = c.args.definition in
    let of = c.get.result.now in
    let r = c.in-Ok.ensures.reads in
    performs-as (expanded m) c.put_body.result (sym c.get.ensures)
    (
    read-performs g.C.Cells (arguments of.pattern) (looks_arguments of.pattern) (λ xs d. put (substituted xs m.body) d) c.in-Ok.arguments c.put_body.result
    (record { narrows = r.narrows; reads = r.ok; stands = r.stands; groups = ap (λ o. o.groups) r.origin; made = ap (λ o. o.made) r.origin; loan = ap (λ o. o.inner) r.origin }) c.put_body.ensures.performs
    )

pub returns-in-Err-Fault-clause-performs : goal.returns-in-Err-Fault-clause-performs
unfolding expanded
returns-in-Err-Fault-clause-performs g c =
    let m = c.args.definition in
    let of = c.get.result.now in
    let r = c.in-Err-Fault.ensures.reads in
    performs-as (expanded m) (Ok (Stopped c.in-Err-Fault.kind)) (sym c.get.ensures)
    (
    read-stops g.C.Cells (arguments of.pattern) (looks_arguments of.pattern) (λ xs d. put (substituted xs m.body) d) c.in-Err-Fault.kind
    (record { narrows = r.narrows; reads = at-fault _ _ c.in-Err-Fault.kind c.in-Err-Fault.field-0-is r.fault; stands = r.stands; groups = ap (λ o. o.groups) r.origin; made = ap (λ o. o.made) r.origin; loan = ap (λ o. o.inner) r.origin })
    )
