use Rattle.std.proofs.Common.{◌∙◌, ap}
use Rattle.lb_model_nest.specs.declared.turn.Went.TheVariants.{On}
use Rattle.lb_model_nest.specs.Pages.{added, all_added}
use Rattle.lb_nest.proofs.AddLemmas.{all-added-more, all-added-none}
use Rattle.lb_nest.proofs.LoopLemmas.{led-as, led-done, led-ended, led-on}
use Rattle.lb_nest.proofs.adding.add_each.Goals as goal

pub nodes-preserved : goal.nodes-preserved
nodes-preserved g c =
    let node = c.in-Some.node in
    let rest = c.pop.new.self in
    led-on (added node) (all_added rest) c.in-On.is (led-as (ap all_added c.in-Some.ensures ∙ all-added-more node rest) c.nodes.invariant) c.in_ok-went.ensures.goes

pub returns-in_default-went : goal.returns-in_default-went
returns-in_default-went g c =
    let node = c.in-Some.node in
    let rest = c.pop.new.self in
    record {
      goes =
          led-ended (added node) (all_added rest) c.in_ok-went.went c.in_default-went.not-On (led-as (ap all_added c.in-Some.ensures ∙ all-added-more node rest) c.nodes.invariant)
          c.in_ok-went.ensures.goes;
    }

pub returns : goal.returns
returns g c = record { goes = led-done On (led-as (ap all_added c.in_default.ensures.0 ∙ all-added-none) c.nodes.invariant) }
