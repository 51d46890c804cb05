use Rattle.std.proofs.Common.{length, ap, ◌∙◌, w32, refl}
use Rattle.std.proofs.lemmas.Int.{to_z-of_z}
use Rattle.lb_tfm.proofs.Drawn.{table-drawn}
use Rattle.lb_tfm.proofs.Searches.{codes-length}
use Rattle.lb_tfm.proofs.tables.font_with.Goals as goal

pub invariant_of-result : goal.invariant_of-result
invariant_of-result c = (
  ap length c.in_ok-metrics.ensures ∙ codes-length _,
  ap length c.in_ok-starts.ensures ∙ codes-length _,
  table-drawn c.args.bytes.now c.args.counts _ _ _ c.type_inv.bytes c.requires.sound.steps c.in_ok-metrics.ensures c.in_ok-steps.ensures,
)

pub returns : goal.returns
returns c =
    rw (c.in_ok-id.ensures, c.parameters.ensures, c.in_ok-metrics.ensures, c.in_ok-steps.ensures, c.in_ok-starts.ensures, c.edge_start.ensures, c.edge_code.ensures, to_z-of_z w32 c.args.size c.ranges.size)
    refl
