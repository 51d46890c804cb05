use Rattle.lb_model_counters.specs.Labels.{label_stored}
use Rattle.lb_engine.proofs.EffectLemmas.{answer_leads}
use Rattle.lb_engine.proofs.effects.stored_label.Goals as goal

pub returns : goal.returns
returns g c =
    record {
      leads = λ row. answer_leads g.C.Cells (label_stored c.args.key.now) row c.reference.result c.requires.holds c.reference.ensures.does;
    }
