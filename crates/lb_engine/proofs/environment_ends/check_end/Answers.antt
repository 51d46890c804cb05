use Rattle.std.proofs.Common.{◌∷◌, []}
use Rattle.std.specs.Prelude.{nat_eq, if◌then◌else◌}
use Rattle.std.specs.Cmp.Lexicographic.{pointwise}
use Rattle.lb_base.specs.declared.fault.Kind.TheVariants.{EnvironmentMismatch}
use Rattle.lb_model.specs.declared.group.GroupKind.TheVariants.{Semi}
use Rattle.lb_model_nest.specs.Groups.{group_closed}
use Rattle.lb_model_nest.specs.Wholes.{stop}
use Rattle.lb_values.specs.declared.cell.Cell.TheVariants as cell
use Rattle.lb_model_engine.specs.Environments.{environment_now}
use Rattle.lb_engine.proofs.LooksLemmas.{looks-failed, looks-holds, looks-then}
use Rattle.lb_engine.proofs.environment_ends.check_end.Goals as goal

pub close_named-requires : goal.close_named-requires
close_named-requires g c = record { holds = looks-holds g.C.Cells c.args.engine.now c.requires.holds c.in_ok-innermost.ensures.looks }

pub returns : goal.returns
returns g c = record { goes = looks-then g.C.Cells (cell.Env ∷ []) (environment_now) (λ innermost w. if pointwise nat_eq c.args.name.now innermost then group_closed Semi w else stop EnvironmentMismatch w) c.in_ok-innermost.innermost c.close_named.result c.in_ok-innermost.ensures.looks c.close_named.ensures.goes }

pub returns-in_err-innermost : goal.returns-in_err-innermost
returns-in_err-innermost g c = record { goes = looks-failed c.from_residual.result c.from_residual.ensures.0 c.in_err-innermost.ensures.looks }
