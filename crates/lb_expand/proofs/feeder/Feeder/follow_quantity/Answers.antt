use Rattle.std.proofs.Common.{◌∙◌, refl, sym}
use Rattle.lb_base.specs.declared.fault.Kind.TheVariants.{NumberMissing}
use Rattle.lb_model_grammar.specs.Dimensions.{meant}
use Rattle.lb_model_expansion.specs.Expansion.{scan_closed}
use Rattle.lb_model_expansion.specs.Steps.{stopped}
use Rattle.lb_expand.proofs.CloseLemmas.{closes-after, closes-as}
use Rattle.lb_expand.proofs.PassLemmas.{same-passes}
use Rattle.lb_expand.proofs.ScanLemmas.{scan-ended}
use Rattle.lb_expand.proofs.feeder.Feeder.follow_quantity.Goals as goal

pub returns-in-Some : goal.returns-in-Some
returns-in-Some g c =
    let C = g.C.Cells in
    let k = c.args.scan.kind in
    let given = c.args.scan.given in
    record {
      closes =
          closes-after c.close_scan.result (λ p h. h)
          (λ more. same-passes C (λ d. scan-ended (meant k given) c.in-Some.found k c.args.purpose given (λ asked. stopped NumberMissing d) more d (sym c.value.ensures ∙ c.in-Some.is)))
          (λ p h. refl) refl refl (closes-as (λ after. scan_closed c.args.purpose c.in-Some.found after) c.close_scan.result (sym c.give_back-after.ensures) c.close_scan.ensures.closes);
      same_cells = c.close_scan.ensures.same_cells;
      same_desk = c.close_scan.ensures.same_desk;
    }
