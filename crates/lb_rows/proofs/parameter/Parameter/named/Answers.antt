use Rattle.std.proofs.Common.{◌≡◌, sym, ◌∙◌, ap, Some, None}
use Rattle.lb_rows.specs.Names.{place_of}
use Rattle.lb_rows.specs.Parameters.{parameter_name, parameter_names, parameter_rows}
use Rattle.lb_rows.proofs.Placed.{parameter_placed}
use Rattle.lb_rows.proofs.Named.{named_some, named_none}
use Rattle.lb_rows.proofs.parameter.Parameter.named.Goals as goal

pub returns : goal.returns
returns c =
    let at : place_of parameter_names c.args.name.now ≡ Some c.in_ok-place.place = ap (λ rows. place_of rows c.args.name.now) (sym c.parameters.ensures) ∙ sym c.in_ok-place.ensures.first in
    named_some parameter_name parameter_rows parameter_placed c.args.name.now c.in_ok-place.place c.at.result at c.at.ensures

pub returns-in_err-place : goal.returns-in_err-place
returns-in_err-place c =
    let nowhere : place_of parameter_names c.args.name.now ≡ None = ap (λ rows. place_of rows c.args.name.now) (sym c.parameters.ensures) ∙ sym c.in_err-place.ensures.first in
    λ row. named_none parameter_name parameter_rows parameter_placed c.args.name.now nowhere row c.from_residual.result c.from_residual.ensures
