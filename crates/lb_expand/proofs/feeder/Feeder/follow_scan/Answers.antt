use Rattle.std.proofs.Common.{◌∙◌, ap, refl, sym}
use Rattle.std.specs.Prelude.{Some}
use Rattle.lb_model_grammar.specs.Dimensions.{meant}
use Rattle.lb_model_expansion.specs.Expansion.{asked_of, scan_closed}
use Rattle.lb_expand.proofs.CloseLemmas.{closes-after, closes-as}
use Rattle.lb_expand.proofs.PassLemmas.{same-passes}
use Rattle.lb_expand.proofs.ScanLemmas.{scan-asks-em, scan-asks-ex, scan-asks-quantity, scan-ended}
use Rattle.lb_expand.proofs.feeder.Feeder.follow_scan.Goals as goal

pub returns-in-Quantity-clause-closes : goal.returns-in-Quantity-clause-closes
returns-in-Quantity-clause-closes g c =
    let C = g.C.Cells in
    let k = c.args.scan.kind in
    let given = c.args.scan.given in
    closes-after c.ask_of.result (λ p h. h)
    (λ more. same-passes C (λ d. scan-asks-quantity (meant k given) k c.args.purpose given (λ asked. asked_of asked c.args.meaning.now k c.args.purpose given more d) more d (c.requires ∙ ap Some c.in-Quantity.is)))
    (λ p h. refl) refl refl c.ask_of.ensures.closes

pub returns-in-Em-clause-closes : goal.returns-in-Em-clause-closes
returns-in-Em-clause-closes g c =
    let C = g.C.Cells in
    let k = c.args.scan.kind in
    let given = c.args.scan.given in
    closes-after c.give_size.result (λ p h. h)
    (λ more. same-passes C (λ d. scan-asks-em (meant k given) k c.args.purpose given (λ asked. asked_of asked c.args.meaning.now k c.args.purpose given more d) more d (c.requires ∙ ap Some c.in-Em.is)))
    (λ p h. refl) refl refl c.give_size.ensures.closes

pub returns-in-Ex-clause-closes : goal.returns-in-Ex-clause-closes
returns-in-Ex-clause-closes g c =
    let C = g.C.Cells in
    let k = c.args.scan.kind in
    let given = c.args.scan.given in
    closes-after c.give_size-in-Ex.result (λ p h. h)
    (λ more. same-passes C (λ d. scan-asks-ex (meant k given) k c.args.purpose given (λ asked. asked_of asked c.args.meaning.now k c.args.purpose given more d) more d (c.requires ∙ ap Some c.in-Ex.is)))
    (λ p h. refl) refl refl c.give_size-in-Ex.ensures.closes

pub returns-in-Some-clause-closes : goal.returns-in-Some-clause-closes
returns-in-Some-clause-closes g c =
    let C = g.C.Cells in
    let k = c.args.scan.kind in
    let given = c.args.scan.given in
    closes-after c.close_scan.result (λ p h. h)
    (
    λ more.
    same-passes C
    (λ d. scan-ended (meant k given) c.in-Some.found k c.args.purpose given (λ asked. asked_of asked c.args.meaning.now k c.args.purpose given more d) more d (sym c.value.ensures ∙ c.in-Some.is))
    )
    (λ p h. refl) refl refl (closes-as (λ after. scan_closed c.args.purpose c.in-Some.found after) c.close_scan.result (sym c.give_back-after.ensures) c.close_scan.ensures.closes)
