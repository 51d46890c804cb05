use Rattle.std.proofs.Common.{◌+◌, ◌++◌, ◌∷◌, [], List, take, reverse, ap, ◌∙◌}
use Rattle.lb_base.specs.declared.node.Node as made
use Rattle.lb_base.specs.declared.node.Node.{Node}
use Rattle.lb_model_paper.specs.Breaks.{is_there, post_in, pre_in}
use Rattle.lb_lines.proofs.Takes.{between_is, item_is, line_is, rest_is}
use Rattle.lb_lines.proofs.cutting.take_line.Goals as goal

pub returns : goal.returns
returns c = λ nodes pending post within.
    let left = c.in_ok-count.count in
    let s = c.in_ok-count.ensures in
    let between = between_is nodes (reverse c.args.pending.now) (reverse c.items_left.new.pending) c.args.taken c.args.item left pending s in
    let rest = c.in_ok-move_items.ensures.rest ∙ rest_is nodes (reverse c.args.pending.now) (reverse c.items_left.new.pending) c.args.taken c.args.item left c.requires pending s in
    let item = item_is nodes c.move_items.new.pending c.pop.new.self c.args.item c.pop.result (made.Glue c.args.shape.now.left) within c.pop.ensures rest in
    let first = c.in_ok-push.ensures.ok ∙ ap (λ (ns : List Node). ns ++ made.Glue c.args.shape.now.left ∷ []) c.new-line.ensures in
    record {
      line = line_is c.args.shape.now nodes c.args.taken (c.args.item + 1) c.push-2.new.self c.args.post (take left (reverse c.items_left.new.pending)) c.end_of-end.result.pre
          (c.in_ok-push-2.ensures.ok ∙ ap (λ (ns : List Node). ns ++ made.Glue c.args.shape.now.right ∷ []) (c.in_ok-append-2.ensures ∙ ap (λ (ns : List Node). ns ++ c.end_of-end.result.pre) (c.in_ok-move_items.ensures.line ∙ ap (λ (ns : List Node). ns ++ take left (reverse c.items_left.new.pending)) (c.in_ok-append.ensures ∙ ap (λ (ns : List Node). ns ++ c.args.post) first))))
          post between (c.end_of-end.ensures.pre ∙ ap pre_in item.parts);
      post = c.end_of-end.ensures.post ∙ ap post_in item.parts;
      is_broken = c.end_of-end.ensures.broken ∙ ap is_there item.parts;
      left = item.rest;
    }
