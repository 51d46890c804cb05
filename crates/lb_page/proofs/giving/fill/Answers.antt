use Rattle.std.proofs.Common.{◌∙◌, sym, subst, take, arith}
use Rattle.lb_page.specs.Fillings.{IsFilling}
use Rattle.lb_page.proofs.Given.{split-at, top-of}
use Rattle.lb_page.proofs.giving.fill.Goals as goal

pub loop-at-preserved : goal.loop-at-preserved
loop-at-preserved c =
    let rules = c.args.rules.now in
    let all = c.args.nodes.now.items in
    let k = c.loop-at.at in
    let split = split-at all k c.in-Some.node c.pop_front.new.self.items (sym c.loop-at.invariant.nodes ∙ c.in-Some.ensures.items) in
    let filled = c.put.ensures.filling (take k all) c.loop-at.invariant.filling (λ none block. top-of rules all k c.args.cut.now.at c.in-Some.node c.pop_front.new.self.items c.args.cut.now.top split (omega arith) c.requires.page.top none block) in
    record {
      nodes = split.left;
      filling = subst (λ ns. IsFilling rules ns c.put.new.self) (sym split.front) filled;
      items = omega (arith, c.put.ensures.items, c.loop-at.invariant.items);
      feet = omega (arith, c.put.ensures.feet, c.loop-at.invariant.feet);
      item_room = c.put.ensures.item_room ∙ c.loop-at.invariant.item_room;
      foot_room = c.put.ensures.foot_room ∙ c.loop-at.invariant.foot_room;
    }
