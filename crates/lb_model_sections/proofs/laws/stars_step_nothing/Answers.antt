use Rattle.lb_model.specs.FontTable.{row}
use Rattle.lb_model_sections.specs.Headings.{head_levels, heading}
use Rattle.lb_model_sections.proofs.FaultLemmas.{starred-steps}
use Rattle.lb_model_sections.proofs.laws.stars_step_nothing.Goals as goal

pub returns : goal.returns
unfolding heading
returns c = λ want w s h. starred-steps (row head_levels want.n) want w s h
