use Rattle.std.proofs.Common.{◌≡◌, ◌∙◌, ap, sym, subst, ℤ, to_z, of_z, w32, arith}
use Rattle.std.proofs.lemmas.Int.{ints}
use Rattle.lb_base.specs.declared.glue.Target.TheVariants.{To}
use Rattle.lb_base.specs.declared.node.Axis.TheVariants.{Horizontal}
use Rattle.lb_model_paper.specs.Boxes.{packs}
use Rattle.lb_model_paper.specs.Dvi.{IsSmall}
use Rattle.lb_model_paper.specs.Nodes.{shown}
use Rattle.lb_output.specs.Building.{IsNegatable}
use Rattle.lb_output.proofs.running.packed.Goals as goal

negatable : (z : ℤ) → IsSmall z → IsNegatable z
negatable z small = omega (arith, ints, small.low)

pub returns-in-Ok-clause-small : goal.returns-in-Ok-clause-small
returns-in-Ok-clause-small c =
    let same : c.args.width ≡ to_z w32 (of_z w32 c.args.width) = omega (arith, ints) in
    let made = (c.packing.ensures.made Horizontal (shown c.args.nodes) (To c.args.width) c.in-Ok.boxed).0 (ap (λ (z : ℤ). packs Horizontal (shown c.args.nodes) (To z)) same ∙ c.in-Ok.ensures) in
    let small = made.0 in
    let packed = made.2 in
    record {
      height = subst IsNegatable (sym packed.height) (negatable _ small.across.0);
      depth = subst IsNegatable (sym packed.depth) (negatable _ small.across.1);
    }
