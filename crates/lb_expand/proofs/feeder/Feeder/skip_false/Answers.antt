use Rattle.std.proofs.Common.{ap}
use Rattle.lb_base.specs.declared.fault.Kind.TheVariants.{ExtraFi}
use Rattle.lb_model.specs.Conditionals.{looks_skipped, skipped}
use Rattle.lb_model.specs.Configs.{Config}
use Rattle.lb_model_grammar.specs.declared.condition.Sought.TheVariants.{Any}
use Rattle.lb_model_grammar.specs.declared.condition.Stopper.{Stopper}
use Rattle.lb_model_expansion.specs.Expansion.{stopped_at}
use Rattle.lb_model_expansion.specs.Steps.{Performed, stopped}
use Rattle.lb_expand.proofs.PassLemmas.{at-fault, inside-left, performs-behind, read-performs, read-stops, works_performs}
use Rattle.lb_expand.proofs.feeder.Feeder.skip_false.Goals as goal

-- what follows the stop
next : Stopper → Config → Performed
next stopper d = stopped_at stopper (stopped ExtraFi d) d

pub returns-in-Ok-clause-performs : goal.returns-in-Ok-clause-performs
unfolding next
returns-in-Ok-clause-performs g c =
    let C = g.C.Cells in
    let level = c.in_ok-inside.inside in
    let sought = Any in
    let r = c.in-Ok.ensures.reads in
    performs-behind C c.stop_false.result (inside-left c.args.self.now.desk.now c.leave_inside.new.self level sought next c.in_ok-inside.ensures.count c.in_ok-inside.ensures.left)
    (
    read-performs C (skipped level sought) (looks_skipped level sought) next c.in-Ok.stopper c.stop_false.result
    (record { narrows = r.narrows; reads = r.ok; stands = r.stands; groups = ap (λ o. o.groups) r.origin; made = ap (λ o. o.made) r.origin; loan = ap (λ o. o.inner) r.origin })
    (works_performs C c.skip_to.new.feed.cells.now c.stop_false.result c.stop_false.ensures.works)
    )

pub returns-in-Err-Fault-clause-performs : goal.returns-in-Err-Fault-clause-performs
unfolding next
returns-in-Err-Fault-clause-performs g c =
    let C = g.C.Cells in
    let level = c.in_ok-inside.inside in
    let sought = Any in
    let r = c.in-Err-Fault.ensures.reads in
    performs-behind C _ (inside-left c.args.self.now.desk.now c.leave_inside.new.self level sought next c.in_ok-inside.ensures.count c.in_ok-inside.ensures.left)
    (
    read-stops C (skipped level sought) (looks_skipped level sought) next c.in-Err-Fault.kind
    (record { narrows = r.narrows; reads = at-fault _ _ c.in-Err-Fault.kind c.in-Err-Fault.field-0-is r.fault; stands = r.stands; groups = ap (λ o. o.groups) r.origin; made = ap (λ o. o.made) r.origin; loan = ap (λ o. o.inner) r.origin })
    )
