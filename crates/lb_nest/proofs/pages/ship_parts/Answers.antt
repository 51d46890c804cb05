use Rattle.std.proofs.Common.{◌∙◌, ap}
use Rattle.lb_model_nest.specs.declared.turn.Went.TheVariants.{On}
use Rattle.lb_model_nest.specs.Pages.{parts_shipped, ship}
use Rattle.lb_nest.proofs.AddLemmas.{parts-more, parts-none}
use Rattle.lb_nest.proofs.LoopLemmas.{led-as, led-done, led-ended, led-on}
use Rattle.lb_nest.proofs.pages.ship_parts.Goals as goal

pub parts-preserved : goal.parts-preserved
parts-preserved g c =
    let part = c.in-Some.part in
    let rest = c.pop.new.self in
    led-on (ship part) (parts_shipped rest) c.in-On.is (led-as (ap parts_shipped c.in-Some.ensures ∙ parts-more part rest) c.parts.invariant) c.in_ok-went.ensures.goes

pub returns-in_default-went : goal.returns-in_default-went
returns-in_default-went g c =
    let part = c.in-Some.part in
    let rest = c.pop.new.self in
    record {
      goes =
          led-ended (ship part) (parts_shipped rest) c.in_ok-went.went c.in_default-went.not-On (led-as (ap parts_shipped c.in-Some.ensures ∙ parts-more part rest) c.parts.invariant)
          c.in_ok-went.ensures.goes;
    }

pub returns : goal.returns
returns g c = record { goes = led-done On (led-as (ap parts_shipped c.in_default.ensures.0 ∙ parts-none) c.parts.invariant) }
