use Rattle.std.proofs.Common.{◌≡◌, ◌∙◌, rules, sym, true}
use Rattle.lb_model.specs.HeldNumbers.{held_of}
use Rattle.lb_model.specs.Ranges.{fits, is_settable}
use Rattle.lb_engine.proofs.JoinLemmas.{some-holds}
use Rattle.lb_engine.proofs.changes.held_there.Goals as goal

pub returns-clause-settable : goal.returns-clause-settable
returns-clause-settable c = some-holds (λ v. is_settable c.args.cell.now v ≡ true) c.held.result (λ v e. c.requires.settable v)

pub returns-clause-fits : goal.returns-clause-fits
returns-clause-fits c =
    let value : c.held.result ≡ held_of c.args.cell.now c.args.number = search rules in
    some-holds (λ v. fits c.args.cell.now v ≡ true) c.held.result (λ v e. c.numbers_are_held.ensures.fits c.args.cell.now c.args.number v (sym value ∙ e))
