use Rattle.lb_model_nest.specs.Items.{indent, indent_added}
use Rattle.lb_model_nest.specs.Paragraphs.{begun_in_vertical}
use Rattle.lb_model_nest.specs.Wholes.{is_paragraph, mode_of}
use Rattle.lb_nest.proofs.LeadsLemmas.{leads-behind}
use Rattle.lb_nest.specs.Views.{whole}
use Rattle.std.proofs.Common.{◌≡◌, ap, rules, true}
use Rattle.std.specs.Prelude.{if◌then◌else◌}
use Rattle.lb_nest.proofs.items.indent.Goals as goal

pub returns-then-is_paragraph : goal.returns-then-is_paragraph
unfolding indent
returns-then-is_paragraph g c =
    let a = c.args in
    let on : is_paragraph (mode_of a.nest.now.level.kind) ≡ true = search rules in
    record {
      goes =
          leads-behind {mid = indent_added} c.add_indent.result
          (λ w p k o. let v = whole w p k a.groups.now a.left.now a.nest.now in ap (λ b. if b then indent_added v else begun_in_vertical true v) on)
          (c.add_indent.ensures.goes a.left.now);
    }
