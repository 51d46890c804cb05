use Rattle.std.proofs.Common.{◌≤◌, ◌<◌, length, ap, subst, sym}
use Rattle.lb_model_nest.specs.declared.turn.Went.TheVariants.{On, Stopped}
use Rattle.lb_model_nest.specs.Pages.{pages_shipped, ship}
use Rattle.lb_model_nest.specs.Wholes.{on}
use Rattle.lb_nest.specs.Pages.{OnPart, behind_part}
use Rattle.lb_nest.proofs.LoopLemmas.{led-as, led-done, led-ended, led-on}
use Rattle.lb_nest.proofs.PageLemmas.{fewer, more_behind, taken-led}
use Rattle.lb_nest.proofs.WorksLemmas.{keeps-shelf}
use Rattle.lb_nest.proofs.pages.ship_ended.Goals as goal

pub ship-requires : goal.ship-requires
ship-requires g c = record { keeps = λ p h. keeps-shelf (c.in_ok-part.ensures.works (λ part w. on w) 0).shelf (c.pages.invariant.2.keeps p h) }

pub pages-preserved : goal.pages-preserved
pages-preserved g c =
    let rules = c.args.rules.now in
    let pages = c.pages.invariant.0 in
    let row = more_behind pages rules in
    let taken = taken-led pages rules c.in_ok-part.field-0 c.pages.invariant.2 (c.in_ok-part.ensures.works row c.pages.left) in
    let before = length c.pages.nest.page in
    let after = length c.take_page.new.nest.page in
    let shorter : after < before = subst (λ t. OnPart t (after < before)) c.in-Part.is c.in_ok-part.ensures.shorter in
    let less = fewer pages before after shorter c.pages.invariant.1 in (
      less.0,
      subst (λ page. length page ≤ less.0) (sym c.in_ok-went-in-Part.ensures.page) less.2,
      led-as (ap (λ m. pages_shipped m rules) less.1)
          (led-on (ship c.in-Part.part) (pages_shipped pages rules) c.in-On.is (led-as (ap (behind_part row) c.in-Part.is) taken) c.in_ok-went-in-Part.ensures.goes),
    )

pub returns-in_default : goal.returns-in_default
returns-in_default g c =
    let rules = c.args.rules.now in
    let pages = c.pages.invariant.0 in
    let row = more_behind pages rules in
    let taken = taken-led pages rules c.in_ok-part.field-0 c.pages.invariant.2 (c.in_ok-part.ensures.works row c.pages.left) in
    record {
      goes =
          led-ended (ship c.in-Part.part) (pages_shipped pages rules) c.in_ok-went-in-Part.went c.in_default.not-On (led-as (ap (behind_part row) c.in-Part.is) taken)
          c.in_ok-went-in-Part.ensures.goes;
    }

pub returns-in-Nothing : goal.returns-in-Nothing
returns-in-Nothing g c =
    let rules = c.args.rules.now in
    let pages = c.pages.invariant.0 in
    let row = more_behind pages rules in
    let taken = taken-led pages rules c.in_ok-part.field-0 c.pages.invariant.2 (c.in_ok-part.ensures.works row c.pages.left) in
    record { goes = led-done On (led-as (ap (behind_part row) c.in-Nothing.is) taken) }

pub returns-in-Stops : goal.returns-in-Stops
returns-in-Stops g c =
    let rules = c.args.rules.now in
    let pages = c.pages.invariant.0 in
    let row = more_behind pages rules in
    let taken = taken-led pages rules c.in_ok-part.field-0 c.pages.invariant.2 (c.in_ok-part.ensures.works row c.pages.left) in
    record { goes = led-done (Stopped c.in-Stops.kind) (led-as (ap (behind_part row) c.in-Stops.is) taken) }
