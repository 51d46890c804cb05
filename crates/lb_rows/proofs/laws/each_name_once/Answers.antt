use Rattle.std.proofs.Common.{refl}
use Rattle.std.proofs.lemmas.Cmp.{nat_list_eq_equiv}
use Rattle.std.proofs.lemmas.Map.Made.{IsDistinct-from_count}
use Rattle.lb_rows.specs.Commands.{command_name, command_names, command_rows}
use Rattle.lb_rows.specs.Parameters.{parameter_name, parameter_names, parameter_rows}
use Rattle.lb_rows.specs.Refusals.{refused_names, refused_rows}
use Rattle.lb_rows.proofs.laws.each_name_once.Goals as goal

pub returns-clause-commands : goal.returns-clause-commands
unfolding command_name command_rows
returns-clause-commands c = IsDistinct-from_count nat_list_eq_equiv command_names refl

pub returns-clause-parameters : goal.returns-clause-parameters
unfolding parameter_name parameter_rows
returns-clause-parameters c = IsDistinct-from_count nat_list_eq_equiv parameter_names refl

pub returns-clause-refused : goal.returns-clause-refused
unfolding refused_rows
returns-clause-refused c = IsDistinct-from_count nat_list_eq_equiv refused_names refl
