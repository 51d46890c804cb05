use Rattle.lb_model_nest.specs.Boxes.{empty_parts, list_opened, parts_opened}
use Rattle.lb_model_nest.specs.declared.nest.DiscPart.TheVariants.{PreBreak}
use Rattle.lb_model_nest.specs.declared.nest.ListKind.TheVariants.{Discretionary}
use Rattle.lb_nest.proofs.LeadsLemmas.{leads-behind}
use Rattle.lb_nest.specs.Views.{whole}
use Rattle.lb_nest.specs.declared.nest.Nest.{Nest}
use Rattle.std.proofs.Common.{rules, ◌≡◌, ◌∷◌, ◌++◌, [], ap, sym}
use Rattle.lb_nest.proofs.boxes.open_parts.Goals as goal

pub returns : goal.returns
unfolding parts_opened
returns g c =
    let n : Nest = c.args.nest.now in
    let pushed : c.push.new.self ≡ record n { level = record n.level { nodes = n.level.nodes ++ empty_parts ∷ [] } } = search rules in
    record {
      goes =
          λ left.
          leads-behind {mid = list_opened (Discretionary PreBreak)} c.open_list.result (λ w p k o. ap (λ (v : Nest). list_opened (Discretionary PreBreak) (whole w p k c.args.groups.now left v)) (sym pushed))
          (c.open_list.ensures.goes left);
    }
