use Rattle.lb_base.specs.declared.node.Boxed.{Boxed}
use Rattle.lb_model_nest.specs.Boxes.{box_placed}
use Rattle.lb_model_nest.specs.Wholes.{change}
use Rattle.lb_nest.proofs.LeadsLemmas.{leads-as}
use Rattle.lb_values.specs.declared.cell.Cell.TheVariants as cell
use Rattle.lb_values.specs.declared.value.Value.TheVariants as value
use Rattle.std.proofs.Common.{sym}
use Rattle.lb_nest.proofs.boxes.place_box.Goals as goal

pub returns-in_ok-new-in-Register : goal.returns-in_ok-new-in-Register
unfolding box_placed
returns-in_ok-new-in-Register g c =
    let r = c.in-Register in
    record {
      goes =
          leads-as (λ x. box_placed x c.args.boxed) c.change.result r.is
          (leads-as (λ (b : Boxed). change r.reach (cell.Boxed r.n) (value.Boxed b)) c.change.result (sym c.in_ok-new-in-Register.ensures) (c.change.ensures.goes c.args.left.now));
    }
