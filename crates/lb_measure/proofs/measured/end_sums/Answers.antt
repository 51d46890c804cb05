use Rattle.std.proofs.Common.{[], ◌∷◌, sym, ap, ◌∙◌, arith}
use Rattle.lb_model_paper.specs.Breaks.{glue_node, sums_of}
use Rattle.lb_model_paper.specs.declared.paragraph.LineSums.{LineSums}
use Rattle.lb_measure.specs.Amounts.{added}
use Rattle.lb_measure.proofs.Singles.{sums_of-end}
use Rattle.lb_measure.proofs.Sums.{AreNear-more, sums_of-append}
use Rattle.lb_measure.proofs.measured.end_sums.Goals as goal

pub added-requires : goal.added-requires
added-requires c = record {
  a = AreNear-more 1 1048576 c.glue_sums.result (omega arith) c.glue_sums.ensures.near;
  b = AreNear-more 1 1048576 c.glue_sums-2.result (omega arith) c.glue_sums-2.ensures.near;
}

pub returns : goal.returns
returns c = record {
  value = c.added.ensures.value ∙ ap (λ (s : LineSums). added s c.glue_sums-2.result) (sums_of-end c.args.shape.now.left c.glue_sums.result c.glue_sums.ensures.of_glue)
      ∙ ap (λ (s : LineSums). added (sums_of (glue_node c.args.shape.now.left ∷ [])) s) (sums_of-end c.args.shape.now.right c.glue_sums-2.result c.glue_sums-2.ensures.of_glue)
      ∙ sym (sums_of-append (glue_node c.args.shape.now.left ∷ []) (glue_node c.args.shape.now.right ∷ []));
  near = c.added.ensures.near 1 1 c.glue_sums.ensures.near c.glue_sums-2.ensures.near;
}
