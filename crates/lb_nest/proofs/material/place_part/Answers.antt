use Rattle.lb_model_nest.specs.Boxes.{part_behind}
use Rattle.lb_nest.proofs.LeadsLemmas.{leads-behind}
use Rattle.lb_nest.specs.Views.{whole}
use Rattle.lb_nest.specs.declared.nest.Nest.{Nest}
use Rattle.std.proofs.Common.{ap, sym}
use Rattle.lb_nest.proofs.material.place_part.Goals as goal

pub returns : goal.returns
returns g c =
    let a = c.args in
    let n : Nest = a.nest.now in
    let filled = c.in_ok-fill_part.ensures.filled in
    record {
      goes =
          λ left.
          leads-behind {mid = part_behind a.part} c.open_next_part.result
          (λ w p k o. ap (λ (v : Nest). part_behind a.part (whole w p k a.groups.now left v)) (sym filled))
          (c.open_next_part.ensures.goes left);
    }
