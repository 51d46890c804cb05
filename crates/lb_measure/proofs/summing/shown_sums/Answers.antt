use Rattle.std.proofs.Common.{ap, ◌∙◌, arith}
use Rattle.lb_model_paper.specs.Breaks.{sums_of}
use Rattle.lb_model_paper.specs.Nodes.{shown}
use Rattle.lb_model_paper.specs.declared.paragraph.LineSums.{LineSums}
use Rattle.lb_measure.specs.Amounts.{added}
use Rattle.lb_measure.proofs.Sums.{AreNear-more, nothing-added}
use Rattle.lb_measure.proofs.summing.shown_sums.Goals as goal

pub returns : goal.returns
returns c = record {
  value = c.add_all.ensures.sums ∙ ap (λ (s : LineSums). added s (sums_of (shown c.args.nodes.now))) c.of_nothing-summing.ensures.sums ∙ nothing-added (sums_of (shown c.args.nodes.now));
  near = AreNear-more c.add_all.new.self.count 65536 c.add_all.new.self.sums (omega (arith, c.add_all.ensures.count, c.of_nothing-summing.ensures.count, c.requires)) c.add_all.ensures.near;
}
