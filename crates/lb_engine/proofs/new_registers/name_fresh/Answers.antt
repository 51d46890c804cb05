use Rattle.std.proofs.Common.{◌≡◌, of_z, rules, to_z, w32}
use Rattle.lb_model_engine.specs.NewNames.{fresh_named}
use Rattle.lb_engine.proofs.JoinLemmas.{leads-same, read-failed}
use Rattle.lb_engine.proofs.LeadsLemmas.{leads-read}
use Rattle.lb_engine.proofs.new_registers.name_fresh.Goals as goal

pub name_at-requires-clause-holds : goal.name_at-requires-clause-holds
name_at-requires-clause-holds g c = (c.in_ok-number.ensures.leads (fresh_named c.args.kind c.args.name.now)).keeps

pub returns : goal.returns
returns g c =
    let same : to_z w32 (of_z w32 c.in_ok-number.number) ≡ c.in_ok-number.number = search rules in
    let row = fresh_named c.args.kind c.args.name.now in
    record { goes = leads-read row c.in_ok-number.number c.name_at.result (c.in_ok-number.ensures.leads row) (leads-same row same c.name_at.ensures.goes) }

pub returns-in_err-number : goal.returns-in_err-number
returns-in_err-number g c = record { goes = read-failed c.from_residual.result c.from_residual.ensures.0 (c.in_err-number.ensures.leads (fresh_named c.args.kind c.args.name.now)) }
