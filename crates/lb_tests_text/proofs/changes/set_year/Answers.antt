use Rattle.std.proofs.Common.{rules}
use Rattle.lb_rows.specs.Parameters.{parameter_kind}
use Rattle.lb_tests_text.proofs.changes.set_year.Goals as goal

pub set-requires-clause-fits : goal.set-requires-clause-fits
unfolding parameter_kind
set-requires-clause-fits g c = search rules
