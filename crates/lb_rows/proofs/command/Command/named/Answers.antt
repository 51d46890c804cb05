use Rattle.std.proofs.Common.{◌≡◌, sym, ◌∙◌, ap, Some, None}
use Rattle.lb_rows.specs.Names.{place_of}
use Rattle.lb_rows.specs.Commands.{command_name, command_names, command_rows}
use Rattle.lb_rows.proofs.Placed.{command_placed}
use Rattle.lb_rows.proofs.Named.{named_some, named_none}
use Rattle.lb_rows.proofs.command.Command.named.Goals as goal

pub returns : goal.returns
returns c =
    let at : place_of command_names c.args.name.now ≡ Some c.in_ok-place.place = ap (λ rows. place_of rows c.args.name.now) (sym c.commands.ensures) ∙ sym c.in_ok-place.ensures.first in
    named_some command_name command_rows command_placed c.args.name.now c.in_ok-place.place c.at.result at c.at.ensures

pub returns-in_err-place : goal.returns-in_err-place
returns-in_err-place c =
    let nowhere : place_of command_names c.args.name.now ≡ None = ap (λ rows. place_of rows c.args.name.now) (sym c.commands.ensures) ∙ sym c.in_err-place.ensures.first in
    λ row. named_none command_name command_rows command_placed c.args.name.now nowhere row c.from_residual.result c.from_residual.ensures
