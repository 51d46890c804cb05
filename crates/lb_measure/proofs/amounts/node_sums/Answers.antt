use Rattle.lb_measure.proofs.Singles.{sums_of-glue, sums_of-other}
use Rattle.lb_measure.proofs.amounts.node_sums.Goals as goal

pub returns-in-Glue-clause-value : goal.returns-in-Glue-clause-value
returns-in-Glue-clause-value c = sums_of-glue c.args.node.now c.in-Glue.glue c.glue_sums.result c.in-Glue.is c.glue_sums.ensures.of_glue

pub returns-in_default : goal.returns-in_default
returns-in_default c = let s = sums_of-other c.args.node.now c.along.result c.in_default.not-Glue c.along.ensures.room c.along.ensures.near in
    record { value = s.value; near = s.near }
