use Rattle.std.proofs.Common.{refl, arith}
use Rattle.lb_model_paper.specs.Pages.{are_small_on_page, best_place, on_page, search_end}
use Rattle.lb_page.proofs.search.Search.by.Goals as goal

pub returns-clause-search : goal.returns-clause-search
unfolding are_small_on_page best_place on_page search_end
returns-clause-search c = λ nodes. record {
  within = omega arith;
  so_far = c.nothing.ensures.so_far _;
  small = refl;
  none = refl;
  best = record { place = refl; cut = tt };
}

pub returns-clause-ready : goal.returns-clause-ready
returns-clause-ready c = c.nothing.ensures.ready c.args.rules
