use Rattle.std.proofs.Common.{◌∙◌, ◌++◌, ap, sym, subst, ℤ, pos, neg_ℤ, ◌-ℤ◌, to_z, of_z, w32, FitsSigned, arith, rules}
use Rattle.std.proofs.lemmas.Int.{ints, to_z-of_z}
use Rattle.lb_model_paper.specs.PageBoxes.{foot_items}
use Rattle.lb_output.specs.Building.{IsNegatableBox}
use Rattle.lb_output.proofs.Joining.{a_box, a_kern, join}
use Rattle.lb_output.proofs.building.push_foot.Goals as goal

pub returns : goal.returns
returns c =
    let held : ℤ → ℤ = λ z. to_z w32 (of_z w32 z) in
    let foot = c.in-Some.foot in
    let l = c.args.lengths.now in
    let old = c.args.items.now in
    let fits : FitsSigned w32 c.args.margin = search rules in
    let lift = subst IsNegatableBox c.in-Some.is c.requires.foot in
    let fits_height : FitsSigned w32 foot.height = search rules in
    let first = a_kern old c.push_kern.new.items (held (pos 0 -ℤ held c.args.used)) (neg_ℤ c.args.used) c.in_ok-push_kern.ensures (omega (arith, ints)) in
    let second = a_kern c.push_kern.new.items c.push_kern-2.new.items (held l.textheight) l.textheight c.in_ok-push_kern-2.ensures (omega (arith, ints)) in
    let third = a_kern c.push_kern-2.new.items c.push_kern-3.new.items (held l.footskip) l.footskip c.in_ok-push_kern-3.ensures (omega (arith, ints)) in
    let fourth = a_kern c.push_kern-3.new.items c.push_kern-4.new.items (held (pos 0 -ℤ held foot.height)) (neg_ℤ foot.height) c.in_ok-push_kern-4.ensures (omega (arith, ints, lift.height)) in
    let fifth = a_box c.push_kern-4.new.items c.push_box.new.items (held c.args.margin) c.args.margin foot c.in_ok-push_box.ensures (to_z-of_z w32 c.args.margin fits) in
    join old _ _ _ _ (join old _ _ _ _ (join old _ _ _ _ (join old _ _ _ _ first second) third) fourth) fifth ∙ ap (λ f. old ++ foot_items l c.args.margin c.args.used f) (sym c.in-Some.is)
