use Rattle.lb_base.specs.declared.node.HeadMark.{HeadMark}
use Rattle.lb_base.specs.declared.node.Node.{Boxed as BoxNode, Mark as MarkNode}
use Rattle.lb_model_nest.specs.Boxes.{mark_box_opened, mark_box_placed, mark_of}
use Rattle.lb_model_nest.specs.Pages.{added}
use Rattle.lb_model_nest.specs.Wholes.{left_level}
use Rattle.lb_nest.proofs.LeadsLemmas.{leads-as, leads-behind}
use Rattle.lb_nest.specs.Views.{whole}
use Rattle.lb_nest.specs.declared.nest.Nest.{Nest}
use Rattle.std.proofs.Common.{rules, ◌≡◌, ◌∙◌, ◌∷◌, ◌++◌, [], ap, sym, true, false}
use Rattle.lb_nest.proofs.material.place_mark_box.Goals as goal

pub returns-then-is_last : goal.returns-then-is_last
returns-then-is_last g c =
    let a = c.args in
    let n : Nest = a.nest.now in
    let mark : HeadMark = c.in_ok-new.field-0 in
    let made : mark_of n.level.nodes a.boxed ≡ mark = search rules in
    record {
      goes =
          leads-as (λ b. mark_box_placed b a.boxed) c.add_node.result c.if-is_last.true
          (leads-behind {mid = added (MarkNode mark)} c.add_node.result
          (λ w p k o.
          ap (λ m. added (MarkNode m) (left_level (whole w p k a.groups.now a.left.now n))) made
          ∙ ap (λ (v : Nest). added (MarkNode mark) (whole w p k a.groups.now a.left.now v)) (sym c.leave-level.ensures.nest))
          c.add_node.ensures.goes);
    }

pub returns : goal.returns
returns g c =
    let a = c.args in
    let n : Nest = a.nest.now in
    let pushed : c.push.new.self ≡ record n { level = record n.level { nodes = n.level.nodes ++ BoxNode a.boxed ∷ [] } } = search rules in
    record {
      goes =
          leads-as (λ b. mark_box_placed b a.boxed) c.open_mark_box.result c.if-is_last.false
          (leads-behind {mid = mark_box_opened true} c.open_mark_box.result
          (λ w p k o. ap (λ (v : Nest). mark_box_opened true (whole w p k a.groups.now a.left.now v)) (sym pushed))
          (c.open_mark_box.ensures.goes a.left.now));
    }
