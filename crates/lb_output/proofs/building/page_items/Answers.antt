use Rattle.std.proofs.Common.{◌≡◌, ◌∙◌, ◌++◌, ◌∷◌, [], List, Option, ap, ℤ, to_z, of_z, w32, arith, rules}
use Rattle.std.proofs.lemmas.Int.{ints}
use Rattle.lb_base.specs.declared.node.Boxed.{Boxed}
use Rattle.lb_base.specs.declared.node.Node.{Node}
use Rattle.lb_model_paper.specs.PageBoxes.{box_at, feet_items, foot_items, foot_of, head_items, head_of, kern}
use Rattle.lb_output.proofs.Joining.{a_box, a_kern, join, join-list, shape}
use Rattle.lb_output.proofs.building.page_items.Goals as goal

pub returns : goal.returns
returns c =
    let l = c.args.look.now.lengths in
    let m = c.args.look.now.margin in
    let style = c.args.look.now.style in
    let used = c.args.heights.used in
    let head = head_items m (head_of style c.args.running) in
    let feet = feet_items m c.args.feet in
    let foot = foot_items l m used (foot_of style c.args.running) in
    let held : ℤ → ℤ = λ z. to_z w32 (of_z w32 z) in
    let em : held m ≡ m = omega (arith, ints) in
    let eu : held used ≡ used = omega (arith, ints) in
    let nothing : List Node = [] in
    let a : List Node = kern l.topmargin ∷ kern l.headheight ∷ [] in
    let none : c.new-items.result ≡ nothing = search rules in
    let e0 : c.push_kern.new.items ≡ nothing ++ kern (held l.topmargin) ∷ [] = c.in_ok-push_kern.ensures ∙ ap (λ (ns : List Node). ns ++ kern (held l.topmargin) ∷ []) none in
    let e1 = a_kern nothing c.push_kern.new.items (held l.topmargin) l.topmargin e0 (omega (arith, ints)) in
    let e2 = join nothing c.push_kern.new.items c.push_kern-2.new.items (kern l.topmargin ∷ []) (kern l.headheight) e1 (a_kern c.push_kern.new.items c.push_kern-2.new.items (held l.headheight) l.headheight c.in_ok-push_kern-2.ensures (omega (arith, ints))) in
    let h : c.push_head.new.items ≡ c.push_kern-2.new.items ++ head = c.in_ok-push_head.ensures ∙ ap (λ (z : ℤ). c.push_kern-2.new.items ++ head_items z c.placed-head.result.0) em ∙ ap (λ (o : Option Boxed). c.push_kern-2.new.items ++ head_items m o) c.placed-head.ensures.head in
    let e3 = join-list nothing c.push_kern-2.new.items c.push_head.new.items a head e2 h in
    let e4 = join nothing c.push_head.new.items c.push_kern-3.new.items (a ++ head) (kern l.headsep) e3 (a_kern c.push_head.new.items c.push_kern-3.new.items (held l.headsep) l.headsep c.in_ok-push_kern-3.ensures (omega (arith, ints))) in
    let e5 = join nothing c.push_kern-3.new.items c.push_box.new.items ((a ++ head) ++ kern l.headsep ∷ []) (box_at m c.args.body) e4 (a_box c.push_kern-3.new.items c.push_box.new.items (held m) m c.args.body c.in_ok-push_box.ensures (omega (arith, ints))) in
    let f : c.push_feet.new.items ≡ c.push_box.new.items ++ feet = c.in_ok-push_feet.ensures ∙ ap (λ (z : ℤ). c.push_box.new.items ++ feet_items z c.args.feet) em in
    let e6 = join-list nothing c.push_box.new.items c.push_feet.new.items (((a ++ head) ++ kern l.headsep ∷ []) ++ box_at m c.args.body ∷ []) feet e5 f in
    let g : c.push_foot.new.items ≡ c.push_feet.new.items ++ foot = c.in_ok-push_foot.ensures ∙ ap (λ (z : ℤ). c.push_feet.new.items ++ foot_items l z (held used) c.placed-head.result.1) em ∙ ap (λ (z : ℤ). c.push_feet.new.items ++ foot_items l m z c.placed-head.result.1) eu ∙ ap (λ (o : Option Boxed). c.push_feet.new.items ++ foot_items l m used o) c.placed-head.ensures.foot in
    let e7 = join-list nothing c.push_feet.new.items c.push_foot.new.items ((((a ++ head) ++ kern l.headsep ∷ []) ++ box_at m c.args.body ∷ []) ++ feet) foot e6 g in
    e7 ∙ shape a head (kern l.headsep) (box_at m c.args.body) feet foot
