use Rattle.std.proofs.Common.{◌≤◌, ◌∙◌, ℤ, sym, subst, w32}
use Rattle.std.proofs.lemmas.Int.{to_z-of_z}
use Rattle.std.specs.Prelude.{unsigned_abs}
use Rattle.lb_nodes.proofs.Products.{product_bounded, product_held}
use Rattle.lb_nodes.proofs.rounding.product.Goals as goal

pub returns-clause-product : goal.returns-clause-product
returns-clause-product c = product_held c.args.part c.args.excess c.from.result c.requires c.ranges.excess (c.from.ensures ∙ to_z-of_z w32 c.args.excess c.ranges.excess)

pub returns-clause-bounded : goal.returns-clause-bounded
returns-clause-bounded c =
    let P : ℤ → Type 0 = λ z. unsigned_abs z ≤ 85070591730234615865843651857942052864 in
    subst P (sym (product_held c.args.part c.args.excess c.from.result c.requires c.ranges.excess (c.from.ensures ∙ to_z-of_z w32 c.args.excess c.ranges.excess))) (product_bounded c.args.part c.args.excess c.requires c.ranges.excess)
