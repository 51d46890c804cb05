use Rattle.std.proofs.Common.{◌≡◌, ◌-◌, drop, length}
use Rattle.lb_page.specs.Searches.{IsReady, IsRight}
use Rattle.lb_page.proofs.end.advance.Given as goal

abbrev pub invariant-items : goal.invariant-items
invariant-items l = record {
  ready : IsReady l.search;
  right : IsRight (drop l.start l.nodes.items) l.search;
  rules : l.search.rules ≡ l.fn.search.rules;
}

abbrev pub decreases-items : goal.decreases-items
decreases-items l = length (drop l.start l.nodes.items) - l.search.at
