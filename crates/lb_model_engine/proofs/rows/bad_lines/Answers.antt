use Rattle.std.proofs.Common.{refl}
use Rattle.lb_base.specs.declared.node.Node.{out-Node, roll-Node}
use Rattle.lb_model.specs.StartState.{start, start_parameter}
use Rattle.lb_model_paper.specs.Breaks.{any_shrink, is_discardable, is_glue, parts_of, sums_of}
use Rattle.lb_model_paper.specs.FontFiles.{byte_at, codes_from, counts_of, font_of, half_at, scaled, word_at}
use Rattle.lb_model_paper.specs.Nodes.{along, shrink_of, size_of, space_of, stretch_of}
use Rattle.lb_model_paper.specs.TestFont.{test_font}
use Rattle.lb_model_engine.proofs.rows.bad_lines.Goals as goal

pub returns-clause-overfull : goal.returns-clause-overfull
unfolding start start_parameter test_font font_of counts_of half_at byte_at word_at scaled codes_from any_shrink sums_of is_glue is_discardable parts_of along size_of space_of stretch_of shrink_of out-Node roll-Node denote.Hole.Carrier.out
returns-clause-overfull c = refl

pub returns-clause-underfull : goal.returns-clause-underfull
unfolding start start_parameter test_font font_of counts_of half_at byte_at word_at scaled codes_from any_shrink sums_of is_glue is_discardable parts_of along size_of space_of stretch_of shrink_of out-Node roll-Node denote.Hole.Carrier.out
returns-clause-underfull c = refl
