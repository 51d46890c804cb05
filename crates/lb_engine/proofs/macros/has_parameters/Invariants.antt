use Rattle.std.proofs.Common.{◌≡◌, drop}
use Rattle.lb_model.specs.Ranges.{has_parameters}
use Rattle.lb_engine.proofs.macros.has_parameters.Given as goal

abbrev pub invariant-tokens : goal.invariant-tokens
invariant-tokens l = record { same : has_parameters l.parameters (drop l.index l.toks) ≡ has_parameters l.parameters l.toks }
