use Rattle.std.proofs.Common.{refl}
use Rattle.lb_model.specs.Quantities.{internal_in, looks_internal}
use Rattle.lb_model_expansion.specs.Expansion.{internal_to}
use Rattle.lb_quantities.specs.Finds.{internal_of}
use Rattle.lb_expand.specs.Opens.{reading_of}
use Rattle.lb_expand.proofs.CloseLemmas.{closes-after}
use Rattle.lb_expand.proofs.PassLemmas.{look-passes}
use Rattle.lb_expand.proofs.feeder.Feeder.ask_of.Goals as goal

pub returns-clause-closes : goal.returns-clause-closes
returns-clause-closes g c =
    let f = c.in_ok-found.ensures.finds in
    let m = c.args.meaning.now in
    let r = reading_of c.args.opened in
    closes-after c.ask.result f.narrows
    (
    λ more.
    look-passes g.C.Cells (looks_internal m) (λ d. internal_in d.world d.cells.now m) (λ i d. internal_to r.kind r.given i more d) (internal_of c.in_ok-found.found)
    (record { narrows = f.narrows; stays = f.stays; made = f.made; loan = f.loan }) f.notes f.value
    )
    (λ p h. refl) f.made f.loan c.ask.ensures.closes
