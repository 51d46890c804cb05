use Rattle.std.proofs.Common.{◌∙◌, ap, sym}
use Rattle.lb_model_engine.specs.NewNames.{newly}
use Rattle.lb_engine.specs.NewMacros.{is_defined}
use Rattle.lb_engine.proofs.LookLemmas.{told-drops, told-leads}
use Rattle.lb_engine.specs.Reads.{behind_reading}
use Rattle.lb_engine.proofs.new_macros.newly_named.Goals as goal

pub returns : goal.returns
returns g c = record {
  leads = λ define.
      told-leads g.C.Cells c.args.name.now (λ v. v) (λ v. newly c.args.kind (is_defined v) define) (behind_reading (λ u. define)) c.in_ok-value.value c.newly.result c.requires.holds c.in_ok-value.ensures.tells
      (ap (λ b. newly c.args.kind b define) (sym c.is_defined.ensures) ∙ (λ i w. c.newly.ensures define w i));
}

pub returns-in_err-value : goal.returns-in_err-value
returns-in_err-value g c = record { leads = λ define. told-drops c.from_residual.result c.from_residual.ensures.0 c.in_err-value.ensures.tells }
