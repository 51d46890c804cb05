use Rattle.std.proofs.Common.{◌++◌, ◌∷◌, [], List, sym}
use Rattle.lb_base.specs.declared.fault.Kind.TheVariants.{NumberMissing}
use Rattle.lb_model.specs.declared.open.Purpose.{Purpose}
use Rattle.lb_model.specs.Configs.{Config}
use Rattle.lb_model.specs.Quantities.{Internal}
use Rattle.lb_model_grammar.specs.declared.given.Given.{Given}
use Rattle.lb_model_grammar.specs.declared.given.Given.TheVariants.{Quantity as AQuantity}
use Rattle.lb_model_grammar.specs.declared.given.ScanKind.{ScanKind}
use Rattle.lb_model_grammar.specs.Dimensions.{meant}
use Rattle.lb_model_expansion.specs.Expansion.{scan_as}
use Rattle.lb_model_expansion.specs.Steps.{Performed, stopped}
use Rattle.lb_expand.proofs.CloseLemmas.{closes-as}
use Rattle.lb_expand.proofs.feeder.Feeder.scan_quantity.Goals as goal

-- what a scan does that was given this
goes : Purpose → ScanKind → List Given → (Internal → Config → Performed) → Config → Performed
goes purpose k given more d = scan_as (meant k given) k purpose given (λ asked. stopped NumberMissing d) more d

pub returns-clause-closes : goal.returns-clause-closes
unfolding goes
returns-clause-closes g c =
    closes-as (λ k. goes c.args.purpose k (c.args.scan.given ++ AQuantity c.args.quantity ∷ [])) c.follow_quantity.result (sym c.in-Ok.ensures.kind)
    (closes-as (λ all. goes c.args.purpose c.take.new.self.kind all) c.follow_quantity.result (sym (c.in-Ok.ensures.given (λ e. cc))) c.follow_quantity.ensures.closes)
