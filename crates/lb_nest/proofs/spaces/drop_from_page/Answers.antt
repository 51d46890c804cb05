use Rattle.lb_base.specs.declared.node.Node.{Node}
use Rattle.lb_nest.proofs.EndingLemmas.{page-glue}
use Rattle.std.proofs.Common.{ap}
use Rattle.std.specs.Prelude.{List}
use Rattle.lb_nest.proofs.spaces.drop_from_page.Goals as goal

pub returns : goal.returns
returns c =
    let n = c.args.nest.now in
    let e = c.drop_last_glue.ensures in
    ap (λ (page : List Node). record n { page = page }) (page-glue n.page c.drop_last_glue.new.page e.last e.empty)
