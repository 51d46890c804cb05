use Rattle.std.proofs.Common.{Bool, ap, refl, sym}
use Rattle.lb_model.specs.Configs.{Config, looks_by, taken_by}
use Rattle.lb_model.specs.Readings.{looks_taken, taken}
use Rattle.lb_model_expansion.specs.Expansion.{first_token, input_met}
use Rattle.lb_model_expansion.specs.Steps.{Performed, ends_pass, with_outcome}
use Rattle.lb_expand.proofs.PassLemmas.{at-fault, performs-after, read-performs, read-stops, value-passes}
use Rattle.lb_expand.proofs.feeder.Feeder.begin_input.Goals as goal

-- what is done where ends may be passed or not
begun : Bool → Config → Performed
begun passes c = with_outcome (taken (taken_by passes) first_token c) (looks_taken (taken_by passes) (looks_by passes) first_token c) input_met

pub returns-in-Ok-clause-performs : goal.returns-in-Ok-clause-performs
unfolding begun
returns-in-Ok-clause-performs g c =
    let C = g.C.Cells in
    let r = c.in-Ok.ensures.reads in
    let passes = c.ends_pass-passes.result in
    performs-after c.input_from.result (λ p h. h) (value-passes C (λ d. ends_pass d.readings) begun passes (λ p h. sym c.ends_pass-passes.ensures)) refl refl
    (
    read-performs C (taken (taken_by passes) first_token) (looks_taken (taken_by passes) (looks_by passes) first_token) input_met c.in-Ok.tok c.input_from.result
    (record { narrows = r.narrows; reads = r.ok; stands = r.stands; groups = ap (λ o. o.groups) r.origin; made = ap (λ o. o.made) r.origin; loan = ap (λ o. o.inner) r.origin }) c.input_from.ensures.performs
    )

pub returns-in-Err-Fault-clause-performs : goal.returns-in-Err-Fault-clause-performs
unfolding begun
returns-in-Err-Fault-clause-performs g c =
    let C = g.C.Cells in
    let r = c.in-Err-Fault.ensures.reads in
    let passes = c.ends_pass-passes.result in
    performs-after _ (λ p h. h) (value-passes C (λ d. ends_pass d.readings) begun passes (λ p h. sym c.ends_pass-passes.ensures)) refl refl
    (
    read-stops C (taken (taken_by passes) first_token) (looks_taken (taken_by passes) (looks_by passes) first_token) input_met c.in-Err-Fault.kind
    (record { narrows = r.narrows; reads = at-fault _ _ c.in-Err-Fault.kind c.in-Err-Fault.field-0-is r.fault; stands = r.stands; groups = ap (λ o. o.groups) r.origin; made = ap (λ o. o.made) r.origin; loan = ap (λ o. o.inner) r.origin })
    )
