use Rattle.std.proofs.Common.{◌*◌, ◌/◌, ◌<◌, arith, w32, ◌∙◌}
use Rattle.std.proofs.lemmas.Int.{to_z_pos}
use Rattle.lb_tfm.proofs.Lengths.{difference_read, scaled_above, scaled_below}
use Rattle.lb_tfm.proofs.length.scaled.Goals as goal

pub returns-then-a-eq255 : goal.returns-then-a-eq255
returns-then-a-eq255 c =
    let small : 16 * c.divisor-divisor.result * (c.args.size / c.divisor-divisor.result) < 2147483648 = omega arith in
    difference_read c.product-product.result (16 * c.divisor-divisor.result * (c.args.size / c.divisor-divisor.result)) c.product-product.ensures.small small
    ∙ scaled_below c.args.size c.args.a c.args.b c.args.c c.args.d c.divisor-divisor.result c.product-product.result c.if-a-eq255.true c.divisor-divisor.ensures c.product-product.ensures.value

pub returns-else-a-eq255 : goal.returns-else-a-eq255
returns-else-a-eq255 c =
    to_z_pos w32 c.product-product.result c.product-product.ensures.small
    ∙ scaled_above c.args.size c.args.a c.args.b c.args.c c.args.d c.divisor-divisor.result c.product-product.result c.if-a-eq255.false c.divisor-divisor.ensures c.product-product.ensures.value
