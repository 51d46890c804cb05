use Rattle.lb_model_counters.specs.Labels.{label_now}
use Rattle.lb_engine.proofs.EffectLemmas.{answer_leads}
use Rattle.lb_engine.proofs.effects.label_note.Goals as goal

pub returns : goal.returns
returns g c =
    record {
      leads = λ row. answer_leads g.C.Cells (label_now c.args.key.now) row c.label.result c.requires.holds c.label.ensures.does;
    }
