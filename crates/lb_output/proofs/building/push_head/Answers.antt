use Rattle.std.proofs.Common.{◌∙◌, ◌++◌, ap, sym, subst, ℤ, pos, neg_ℤ, ◌-ℤ◌, to_z, of_z, w32, FitsSigned, arith, rules}
use Rattle.std.proofs.lemmas.Int.{ints, to_z-of_z}
use Rattle.lb_model_paper.specs.PageBoxes.{head_items}
use Rattle.lb_output.specs.Building.{IsNegatableBox}
use Rattle.lb_output.proofs.Joining.{a_box, a_kern, join}
use Rattle.lb_output.proofs.building.push_head.Goals as goal

pub returns : goal.returns
returns c =
    let held : ℤ → ℤ = λ z. to_z w32 (of_z w32 z) in
    let head = c.in-Some.head in
    let old = c.args.items.now in
    let fits : FitsSigned w32 c.args.margin = search rules in
    let lift = subst IsNegatableBox c.in-Some.is c.requires in
    let fits_height : FitsSigned w32 head.height = search rules in
    let fits_depth : FitsSigned w32 head.depth = search rules in
    let first = a_kern old c.push_kern.new.items (held (pos 0 -ℤ held head.height)) (neg_ℤ head.height) c.in_ok-push_kern.ensures (omega (arith, ints, lift.height)) in
    let second = a_box c.push_kern.new.items c.push_box.new.items (held c.args.margin) c.args.margin head c.in_ok-push_box.ensures (to_z-of_z w32 c.args.margin fits) in
    let third = a_kern c.push_box.new.items c.push_kern-2.new.items (held (pos 0 -ℤ held head.depth)) (neg_ℤ head.depth) c.in_ok-push_kern-2.ensures (omega (arith, ints, lift.depth)) in
    join old _ _ _ _ (join old _ _ _ _ first second) third ∙ ap (λ h. old ++ head_items c.args.margin h) (sym c.in-Some.is)
