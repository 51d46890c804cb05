use Rattle.std.proofs.Common.{◌≡◌, ◌-◌, ◌++◌}
use Rattle.lb_model_engine.specs.NewNames.{parameters_from}
use Rattle.lb_engine.proofs.new_macros.parameters_from.Given as goal

abbrev pub invariant-parameters : goal.invariant-parameters
invariant-parameters l = record { so_far : l.toks ++ parameters_from l.number (l.end - l.number) ≡ parameters_from l.first (l.end - l.first) }
