use Rattle.std.proofs.Common.{rules, ◌≡◌, None, refl}
use Rattle.std.specs.Prelude.{Ok}
use Rattle.lb_model_paper.specs.Pages.{next_part, nodes_left}
use Rattle.lb_nest.specs.Views.{whole}
use Rattle.lb_nest.proofs.LeadsLemmas.{same-left}
use Rattle.lb_nest.proofs.PageLemmas.{none-ends}
use Rattle.lb_nest.proofs.pages.take_page.Goals as goal

pub returns-in-Ok-None-clause-works : goal.returns-in-Ok-None-clause-works
returns-in-Ok-None-clause-works c =
    let n = c.args.nest.now in
    let part : next_part c.args.rules.now n.page ≡ Ok None = search rules in
    let left-over : c.next_page.new.page ≡ nodes_left c.args.rules.now n.page = search rules in
    λ row left. record { works = λ w p k g. none-ends c.args.rules.now row (whole w p k g left n) c.next_page.new.page part left-over; shelf = refl; left = same-left left }
