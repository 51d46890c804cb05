use Rattle.lb_values.specs.declared.cell.Cell.TheVariants.{Matter}
use Rattle.lb_model.specs.FontTable.{row}
use Rattle.lb_model.specs.HeldNumbers.{held_of}
use Rattle.lb_model_sections.specs.Headings.{head_levels, heading, matter}
use Rattle.lb_model_sections.specs.Lists.{innermost, item}
use Rattle.lb_model_sections.proofs.FaultLemmas.{heading-fault, item-fault, matter-fault}
use Rattle.lb_model_sections.proofs.laws.faults_change_nothing.Goals as goal

pub returns-clause-heading : goal.returns-clause-heading
unfolding heading
returns-clause-heading c = λ want w s k h. heading-fault (row head_levels want.n) want w s k h

pub returns-clause-matter : goal.returns-clause-matter
unfolding matter
returns-clause-matter c = λ n w s k h. matter-fault (held_of Matter n) k h

pub returns-clause-item : goal.returns-clause-item
unfolding item
returns-clause-item c = λ lists label w s k h. item-fault (innermost lists) lists label w s k h
