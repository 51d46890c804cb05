use Rattle.std.proofs.Common.{◌≡◌, ◌≤◌, drop}
use Rattle.lb_model.specs.Ranges.{in_order}
use Rattle.lb_engine.proofs.macros.in_order.Given as goal

abbrev pub invariant-tokens : goal.invariant-tokens
invariant-tokens l =
    record {
      same : in_order l.last (drop l.index l.toks) ≡ in_order l.first l.toks;
      small : l.last ≤ 255;
    }
