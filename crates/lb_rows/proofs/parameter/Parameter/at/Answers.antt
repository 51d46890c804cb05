use Rattle.std.proofs.lemmas.Option.{slice_get-get_or}
use Rattle.lb_rows.specs.declared.parameter.Parameter.TheVariants.{AdjDemerits}
use Rattle.lb_rows.specs.Parameters.{parameter_rows}
use Rattle.lb_rows.proofs.parameter.Parameter.at.Goals as goal

pub returns : goal.returns
unfolding parameter_rows
returns c = slice_get-get_or parameter_rows c.args.place AdjDemerits c.requires
