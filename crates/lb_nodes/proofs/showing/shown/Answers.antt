use Rattle.std.proofs.Common.{◌≡◌, ◌++◌, List, reverse, ap, ◌∙◌}
use Rattle.lb_base.specs.declared.node.Discretionary.{Discretionary, out-Discretionary}
use Rattle.lb_base.specs.declared.node.Node.{Node}
use Rattle.lb_model_paper.proofs.ShownLists.{list_weight-turn_other, shown-end, shown-turn_disc, shown-turn_other, unbroken_parts-disc, unbroken_parts-other}
use Rattle.lb_nodes.proofs.showing.shown.Goals as goal

pub loop-node-preserved-in-Continue-branch-2 : goal.loop-node-preserved-in-Continue-branch-2
loop-node-preserved-in-Continue-branch-2 c =
    let parts : List Node = (out-Discretionary c.in-Disc.parts).no_break in
    let pushed : c.push_third.new.pending ≡ c.pop.new.self ++ reverse parts = c.in_ok-push_third-in-Disc.ensures ∙ ap (λ (d : Discretionary). c.pop.new.self ++ reverse (out-Discretionary d).no_break) c.into_inner.ensures in
    shown-turn_disc _ c.loop-node.nodes c.loop-node.pending c.pop.new.self c.push_third.new.pending parts c.in-Some.node c.in-Some.ensures (unbroken_parts-disc c.in-Some.node c.in-Disc.parts c.in-Disc.is) pushed c.loop-node.invariant

pub loop-node-smaller : goal.loop-node-smaller
loop-node-smaller c = list_weight-turn_other c.loop-node.pending c.pop.new.self c.in-Some.node c.in-Some.ensures (unbroken_parts-other c.in-Some.node c.in_default-node.not-Disc)

pub loop-node-preserved : goal.loop-node-preserved
loop-node-preserved c = shown-turn_other _ c.loop-node.nodes c.loop-node.pending c.pop.new.self _ c.in-Some.node c.in-Some.ensures (unbroken_parts-other c.in-Some.node c.in_default-node.not-Disc) c.in_ok-push-in_default-node.ensures.ok c.loop-node.invariant

pub returns : goal.returns
returns c = shown-end _ c.loop-node.nodes c.loop-node.pending c.in_default.ensures.0 c.loop-node.invariant
