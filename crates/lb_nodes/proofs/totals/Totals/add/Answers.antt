use Rattle.std.proofs.Common.{rules, arith}
use Rattle.std.specs.Prelude.{FitsSigned}
use Rattle.std.specs.Int.{w32}
use Rattle.std.proofs.lemmas.Int.{ints, to_z-of_z}
use Rattle.lb_nodes.proofs.Totalling.{AreTotals-push, IsSumOfFive-more}
use Rattle.lb_nodes.proofs.totals.Totals.add.Goals as goal

pub invariant_of-self : goal.invariant_of-self
invariant_of-self c =
    let hanging : FitsSigned w32 c.args.self.now.hanging = search rules in
    let near = IsSumOfFive-more c.args.axis c.args.self.now c.along.result c.requires.natural hanging c.along.ensures.bounded in
    record { near = record { low = omega (arith, ints); high = omega (arith, ints) } }

pub returns : goal.returns
returns c = λ before are. AreTotals-push _ before _ c.args.self.now _ are (record {
  room = omega (arith, ints);
  hanging = search (rules, to_z-of_z);
  up = search (rules, to_z-of_z);
  down = search (rules, to_z-of_z);
  right = search (rules, to_z-of_z);
  stretch = λ order. let added = c.add.ensures order in let glue = c.glue_of-glue.ensures.stretch order in search (rules, to_z-of_z);
  shrink = λ order. let added = c.add-2.ensures order in let glue = c.glue_of-glue.ensures.shrink order in search (rules, to_z-of_z);
})
