use Rattle.std.proofs.Common.{rules, ◌≡◌, ◌∙◌, Some, sym}
use Rattle.std.specs.Prelude.{◌+ℤ◌, pos}
use Rattle.lb_base.specs.declared.fault.Kind.TheVariants.{Overflow}
use Rattle.lb_values.specs.declared.reach.Reach.TheVariants.{Global}
use Rattle.lb_model.specs.HeldNumbers.{held_of}
use Rattle.lb_model_nest.specs.declared.turn.Went.TheVariants.{Stopped}
use Rattle.lb_model_nest.specs.Pages.{page_counter}
use Rattle.lb_model_nest.specs.Wholes.{change, change_or, executed}
use Rattle.lb_nest.proofs.LeadsLemmas.{leads-as, leads-nest}
use Rattle.lb_nest.proofs.PageLemmas.{no-next}
use Rattle.lb_nest.proofs.ship.count.Goals as goal

pub returns-then-numbering-eq2147483647 : goal.returns-then-numbering-eq2147483647
returns-then-numbering-eq2147483647 g c =
    let last : c.args.numbering.number ≡ pos 2147483647 = search rules in
    record { goes = λ left. leads-nest executed (Stopped Overflow) (λ w p k o. no-next c.args.numbering.number last _) c.requires.keeps }

pub change-requires-clause-fits : goal.change-requires-clause-fits
change-requires-clause-fits g c = λ p h s. c.numbers_are_held.ensures.fits c.in_ok-cell.cell _ c.in-Some.value (sym c.held.ensures ∙ c.in-Some.is)

pub returns-in-Some : goal.returns-in-Some
returns-in-Some g c =
    let is : held_of page_counter (c.args.numbering.number +ℤ pos 1) ≡ Some c.in-Some.value = search rules in
    let cell : page_counter ≡ c.in_ok-cell.cell = search rules in
    record {
      goes =
          λ left.
          leads-as (λ v w. change_or Overflow Global page_counter v w) c.change.result is
          (leads-as (λ k w. change Global k c.in-Some.value w) c.change.result cell (c.change.ensures.goes left));
    }
