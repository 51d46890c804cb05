use Rattle.std.proofs.Common.{◌≡◌, rules}
use Rattle.lb_base.specs.declared.fault.Kind.TheVariants.{BadCode}
use Rattle.lb_model.specs.HeldNumbers.{held_of}
use Rattle.lb_model_nest.specs.Wholes.{change_or}
use Rattle.lb_engine.proofs.JoinLemmas.{leads-same}
use Rattle.lb_engine.proofs.changes.set_number.Goals as goal

pub returns : goal.returns
returns g c =
    let value : c.held_there-value.result ≡ held_of c.args.cell.now c.args.number = search rules in
    record { goes = leads-same (λ v. change_or BadCode c.args.reach c.args.cell.now v) value c.change_or.ensures.goes }
