use Rattle.std.proofs.Common.{◌≡◌, ◌++◌, ◌∷◌, [], List, reverse, sym, ap, ◌∙◌}
use Rattle.lb_base.specs.declared.node.Discretionary.{Discretionary, out-Discretionary}
use Rattle.lb_base.specs.declared.node.Node.{Node}
use Rattle.lb_model_paper.proofs.ShownLists.{list_weight-turn_other, unbroken_parts-disc, unbroken_parts-other}
use Rattle.lb_lines.proofs.Stays.{moved_of-adjust, moved_of-ins, parted-disc, parted-end, parted-moves, parted-stays, stays-adjust, stays-ins, unbroken-adjust, unbroken-ins}
use Rattle.lb_lines.proofs.parting.part.Goals as goal

pub loop-node-preserved-in-Continue-branch-2 : goal.loop-node-preserved-in-Continue-branch-2
loop-node-preserved-in-Continue-branch-2 c =
    let i = c.loop-node.invariant in
    let parts : List Node = (out-Discretionary c.in-Disc.parts).no_break in
    let pushed : c.push_third.new.pending ≡ c.pop.new.self ++ reverse parts = c.in_ok-push_third-in-Disc.ensures ∙ ap (λ (d : Discretionary). c.pop.new.self ++ reverse (out-Discretionary d).no_break) c.into_inner.ensures in
    let p = parted-disc c.loop-node.parted.stay c.loop-node.parted.moved c.loop-node.pending c.pop.new.self c.push_third.new.pending parts c.args.line c.in-Some.node c.in-Some.ensures (unbroken_parts-disc c.in-Some.node c.in-Disc.parts c.in-Disc.is) pushed (record { stay_all = i.stay; moved_all = i.moved }) in
    record { stay = p.stay_all; moved = p.moved_all }

pub loop-node-smaller-in-Continue-branch-3 : goal.loop-node-smaller-in-Continue-branch-3
loop-node-smaller-in-Continue-branch-3 c = list_weight-turn_other c.loop-node.pending c.pop.new.self c.in-Some.node c.in-Some.ensures (unbroken-ins c.in-Some.node c.in-Ins.footnote c.in-Ins.is)

pub loop-node-preserved-in-Continue-branch-3 : goal.loop-node-preserved-in-Continue-branch-3
loop-node-preserved-in-Continue-branch-3 c =
    let i = c.loop-node.invariant in
    let n : Node = c.in-Some.node in
    let p = parted-moves c.loop-node.parted.stay c.loop-node.parted.moved c.loop-node.pending c.pop.new.self c.push.new.self (n ∷ []) c.args.line n c.in-Some.ensures (unbroken-ins n c.in-Ins.footnote c.in-Ins.is) (stays-ins n c.in-Ins.footnote c.in-Ins.is) (moved_of-ins n c.in-Ins.footnote c.in-Ins.is)
    (c.in_ok-push-in-Ins.ensures.ok ∙ ap (λ (m : Node). c.loop-node.parted.moved ++ m ∷ []) (sym c.in-Ins.is)) (record { stay_all = i.stay; moved_all = i.moved }) in
    record { stay = p.stay_all; moved = p.moved_all }

pub loop-node-smaller-in-Continue-branch-4 : goal.loop-node-smaller-in-Continue-branch-4
loop-node-smaller-in-Continue-branch-4 c = list_weight-turn_other c.loop-node.pending c.pop.new.self c.in-Some.node c.in-Some.ensures (unbroken-adjust c.in-Some.node c.in-Adjust.material c.in-Adjust.is)

pub loop-node-preserved-in-Continue-branch-4 : goal.loop-node-preserved-in-Continue-branch-4
loop-node-preserved-in-Continue-branch-4 c =
    let i = c.loop-node.invariant in
    let n : Node = c.in-Some.node in
    let p = parted-moves c.loop-node.parted.stay c.loop-node.parted.moved c.loop-node.pending c.pop.new.self c.append.new.self c.in-Adjust.material c.args.line n c.in-Some.ensures (unbroken-adjust n c.in-Adjust.material c.in-Adjust.is) (stays-adjust n c.in-Adjust.material c.in-Adjust.is) (moved_of-adjust n c.in-Adjust.material c.in-Adjust.is)
    c.in_ok-append-in-Adjust.ensures (record { stay_all = i.stay; moved_all = i.moved }) in
    record { stay = p.stay_all; moved = p.moved_all }

pub loop-node-smaller : goal.loop-node-smaller
loop-node-smaller c = list_weight-turn_other c.loop-node.pending c.pop.new.self c.in-Some.node c.in-Some.ensures (unbroken_parts-other c.in-Some.node c.in_default-node.not-Disc)

pub loop-node-preserved : goal.loop-node-preserved
loop-node-preserved c =
    let i = c.loop-node.invariant in
    let p = parted-stays c.loop-node.parted.stay c.loop-node.parted.moved c.loop-node.pending c.pop.new.self c.push-in_default-node.new.self c.args.line c.in-Some.node c.in-Some.ensures (unbroken_parts-other c.in-Some.node c.in_default-node.not-Disc) (c.in_default-node.not-Ins, c.in_default-node.not-Adjust)
    c.in_ok-push-in_default-node.ensures.ok (record { stay_all = i.stay; moved_all = i.moved }) in
    record { stay = p.stay_all; moved = p.moved_all }

pub returns : goal.returns
returns c =
    let i = c.loop-node.invariant in
    let e = parted-end c.loop-node.parted.stay c.loop-node.parted.moved c.loop-node.pending c.args.line c.in_default.ensures.0 (record { stay_all = i.stay; moved_all = i.moved }) in
    record { stay = e.0; moved = e.1 }
