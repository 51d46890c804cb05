use Rattle.std.specs.Option.{option_copied}
use Rattle.lb_model_counters.specs.Counters.{new_counter}
use Rattle.lb_engine.proofs.EffectLemmas.{effect_leads}
use Rattle.lb_engine.proofs.effects.new_counter.Goals as goal

pub returns : goal.returns
returns g c =
    record {
      leads = λ row. effect_leads g.C.Cells (new_counter c.args.name.now (option_copied c.args.within)) row c.new_counter-done.result c.settled.result c.requires.holds c.new_counter-done.ensures.does c.settled.ensures;
    }
