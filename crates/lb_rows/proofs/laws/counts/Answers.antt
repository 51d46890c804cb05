use Rattle.std.proofs.Common.{refl}
use Rattle.lb_rows.specs.Commands.{command_rows}
use Rattle.lb_rows.specs.Parameters.{parameter_rows}
use Rattle.lb_rows.specs.Refusals.{refused_rows}
use Rattle.lb_rows.proofs.laws.counts.Goals as goal

pub returns-clause-commands : goal.returns-clause-commands
unfolding command_rows
returns-clause-commands c = refl

pub returns-clause-parameters : goal.returns-clause-parameters
unfolding parameter_rows
returns-clause-parameters c = refl

pub returns-clause-refused : goal.returns-clause-refused
unfolding refused_rows
returns-clause-refused c = refl
