use Rattle.std.proofs.Common.{rules, ◌≡◌, ◌∙◌, false, sym}
use Rattle.lb_model_nest.specs.declared.turn.Went.TheVariants.{On}
use Rattle.lb_model_nest.specs.Pages.{is_page}
use Rattle.lb_model_nest.specs.Wholes.{executed}
use Rattle.lb_nest.specs.Views.{whole}
use Rattle.lb_nest.proofs.AddLemmas.{all-added-inside}
use Rattle.lb_nest.proofs.LeadsLemmas.{leads-nest}
use Rattle.lb_nest.proofs.adding.add_all.Goals as goal

pub returns : goal.returns
returns g c =
    let a = c.args in
    let n = a.nest.now in
    let inside : is_page n.level.kind ≡ false = search rules in
    record {
      goes =
          leads-nest executed On
          (λ w p k o.
          all-added-inside a.nodes (whole w p k a.groups.now a.left.now n) inside
          ∙ (λ i. executed On (whole w p k a.groups.now a.left.now (record n { level = sym c.in_ok-append.ensures.ok i }))))
          (λ p h. let k = c.requires.keeps p h in record { standing = k.standing; fonts = k.fonts });
    }
