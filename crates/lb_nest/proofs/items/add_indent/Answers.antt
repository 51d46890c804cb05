use Rattle.lb_model.specs.Stacked.{Standing}
use Rattle.lb_model_nest.specs.Paragraphs.{indent_box}
use Rattle.lb_model_nest.specs.Wholes.{Whole, executed, on, with_node}
use Rattle.lb_model_nest.specs.declared.turn.Went.TheVariants.{On}
use Rattle.lb_nest.proofs.LeadsLemmas.{leads-looking, leads-nest}
use Rattle.lb_nest.proofs.WorksLemmas.{keeps-shelf}
use Rattle.lb_nest.specs.Views.{whole}
use Rattle.lb_nest.specs.declared.nest.Nest.{Nest}
use Rattle.lb_nest.specs.declared.paragraphs.Beginning.{Beginning}
use Rattle.std.proofs.Common.{rules, ◌≡◌, ◌∷◌, ◌++◌, [], ap, subst, sym}
use Rattle.lb_nest.proofs.items.add_indent.Goals as goal

pub returns : goal.returns
returns g c =
    let a = c.args in
    let n : Nest = a.nest.now in
    let b = c.in_ok-lengths.lengths in
    let looks = c.in_ok-lengths.ensures.looks in
    let pushed : c.push.new.self ≡ record n { level = record n.level { nodes = n.level.nodes ++ indent_box b.indent ∷ [] } } = search rules in
    record {
      goes =
          λ left.
          leads-looking (λ (b : Beginning) (w : Whole). on (with_node (indent_box b.indent) w)) b _ looks
          (leads-nest executed On {nn = c.push.new.self} {no = n} (λ w p k o. ap (λ (v : Nest). executed On (whole w p k a.groups.now left v)) (sym pushed))
          (λ p h. let k = c.requires.keeps p (looks.narrows p h) in keeps-shelf {old = n} c.in_ok-push.ensures.shelf (record { standing = subst (Standing a.groups.now) (sym (looks.stays p h)) k.standing; fonts = k.fonts })));
    }
