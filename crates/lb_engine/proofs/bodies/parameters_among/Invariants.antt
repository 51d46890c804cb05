use Rattle.std.proofs.Common.{◌≡◌, ◌≤◌, ◌+◌, drop}
use Rattle.lb_model.specs.Ranges.{parameters_among}
use Rattle.lb_engine.proofs.bodies.parameters_among.Given as goal

abbrev pub invariant-tokens : goal.invariant-tokens
invariant-tokens l =
    record {
      same : l.count + parameters_among (drop l.index l.toks) ≡ parameters_among l.toks;
      small : l.count ≤ l.index;
    }
