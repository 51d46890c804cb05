use Rattle.std.proofs.Common.{w32}
use Rattle.std.proofs.lemmas.Int.{to_z-of_z}
use Rattle.lb_model_counters.specs.Counters.{set_counter}
use Rattle.lb_engine.proofs.EffectLemmas.{effect_leads_at}
use Rattle.lb_engine.proofs.effects.set_counter.Goals as goal

pub returns : goal.returns
returns g c =
    record {
      leads =
          λ row.
          effect_leads_at g.C.Cells (λ n. set_counter c.args.name.now n) row c.set-done.result c.settled.result (to_z-of_z w32 c.args.number c.ranges.number) c.requires.holds
          c.set-done.ensures.does c.settled.ensures;
    }
