use Rattle.std.proofs.Common.{◌≡◌}
use Rattle.lb_model.specs.Stacked.{saves_in}
use Rattle.lb_tests_scan.proofs.groups.open_many.Given as goal

abbrev pub invariant-loop : goal.invariant-loop
invariant-loop l = saves_in l.groups ≡ saves_in l.fn.groups
