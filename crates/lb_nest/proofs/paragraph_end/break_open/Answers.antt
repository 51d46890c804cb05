use Rattle.lb_base.specs.declared.node.Node.{Node}
use Rattle.lb_model_nest.specs.Paragraphs.{broken_into_lines, finished}
use Rattle.lb_model_nest.specs.Wholes.{Whole, left_level}
use Rattle.lb_model_paper.specs.declared.paragraph.LineRules.{LineRules}
use Rattle.lb_nest.proofs.LeadsLemmas.{leads-behind, leads-looking}
use Rattle.lb_nest.specs.Endings.{broken_by, ended_by}
use Rattle.lb_nest.specs.Views.{whole}
use Rattle.lb_nest.specs.declared.nest.Nest.{Nest}
use Rattle.std.proofs.Common.{rules, ◌≡◌, ◌∙◌, ap, sym}
use Rattle.std.specs.Prelude.{List}
use Rattle.lb_nest.proofs.paragraph_end.break_open.Goals as goal

pub returns : goal.returns
returns g c =
    let a = c.args in
    let n : Nest = a.nest.now in
    let e = c.in_ok-ending.ending in
    let list : List Node = c.in_ok-list.list in
    let made : finished e.fill n.level.nodes ≡ list = search rules in
    record {
      goes =
          leads-looking ended_by e c.add_broken.result c.in_ok-ending.ensures.looks
          (leads-looking (λ (r : LineRules) (w : Whole). broken_by e w) c.in_ok-_rules._rules c.add_broken.result c.in_ok-_rules.ensures.looks
          (leads-behind {mid = broken_into_lines e.shape list} c.add_broken.result
          (λ w p k o.
          ap (λ (nodes : List Node). broken_into_lines e.shape nodes (left_level (whole w p k a.groups.now a.left.now n))) made
          ∙ ap (λ (m : Nest). broken_into_lines e.shape list (whole w p k a.groups.now a.left.now m)) (sym c.leave-paragraph.ensures.nest))
          c.add_broken.ensures.goes));
    }
