use Rattle.std.proofs.Common.{rules, arith}
use Rattle.std.proofs.lemmas.Int.{ints, to_z-of_z}
use Rattle.lb_page.proofs.Totalling.{AreSums-push}
use Rattle.lb_page.proofs.sums.Sums.put.Goals as goal
use Rattle.lb_page.proofs.sums.Sums.put.Goals.{then-self, else-self}

pub returns : goal.returns
returns c = λ page are. AreSums-push page _ c.args.self.now _ are (record {
  room = omega (arith, ints);
  hanging = search (rules, to_z-of_z);
  right = search (rules, to_z-of_z);
  stretch = λ order. let added = c.add.ensures order in let glue = c.glue_of-glue.ensures.stretch order in search (rules, to_z-of_z);
  shrink = λ order. let added = c.add-2.ensures order in let glue = c.glue_of-glue.ensures.shrink order in search (rules, to_z-of_z);
  has_foot = elim c.if-self.branch [ then-self w ↦ grind (arith) | else-self w ↦ grind (arith) ];
  feet_size = omega (arith, ints, c.foot_size.ensures.value);
})
