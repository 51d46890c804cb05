use Rattle.std.proofs.Common.{refl}
use Rattle.lb_model_paper.specs.Pages.{on_page}
use Rattle.lb_page.proofs.filling.Filling.with_room.Goals as goal

pub returns-clause-empty : goal.returns-clause-empty
unfolding on_page
returns-clause-empty c = λ rules. record {
  items = c.in_ok-with_capacity.ensures.items;
  feet = c.in_ok-with_capacity-2.ensures.items;
  begun = refl;
  topped = refl;
}
