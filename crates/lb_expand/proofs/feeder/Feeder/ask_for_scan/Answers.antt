use Rattle.lb_model.specs.declared.open.ReadingKind.TheVariants as reading
use Rattle.lb_model_expansion.specs.Expansion.{internal_to}
use Rattle.lb_quantities.specs.Finds.{internal_of}
use Rattle.lb_expand.proofs.CloseLemmas.{closes-as}
use Rattle.lb_expand.proofs.feeder.Feeder.ask_for_scan.Goals as goal

pub returns-in-Known-clause-closes : goal.returns-in-Known-clause-closes
returns-in-Known-clause-closes g c =
    closes-as (λ f more d. internal_to (reading.Scan c.args.scan.kind c.args.purpose) c.args.scan.given (internal_of f) more d) c.scan_quantity.result c.in-Known.is c.scan_quantity.ensures.closes

pub returns-in-Tokens-clause-closes : goal.returns-in-Tokens-clause-closes
returns-in-Tokens-clause-closes g c =
    closes-as (λ f more d. internal_to (reading.Scan c.args.scan.kind c.args.purpose) c.args.scan.given (internal_of f) more d) c.scan_quantity-in-Tokens.result c.in-Tokens.is c.scan_quantity-in-Tokens.ensures.closes

pub returns-in-Picked-clause-closes : goal.returns-in-Picked-clause-closes
returns-in-Picked-clause-closes g c =
    closes-as (λ f more d. internal_to (reading.Scan c.args.scan.kind c.args.purpose) c.args.scan.given (internal_of f) more d) c.pick_for_scan.result c.in-Picked.is c.pick_for_scan.ensures.closes
