use Rattle.lb_engine.proofs.ModeLemmas.{mode-lacks, mode-wanted}
use Rattle.lb_model_engine.specs.Material.{footnote, material_begun}
use Rattle.lb_model_nest.specs.Wholes.{is_paragraph, mode_of}
use Rattle.std.proofs.Common.{false, rules, true, ◌≡◌}
use Rattle.lb_model_nest.specs.declared.nest.ListKind.TheVariants as list
use Rattle.lb_engine.proofs.materials.footnote.Goals as goal

pub returns-then-not-is_paragraph : goal.returns-then-not-is_paragraph
unfolding footnote
returns-then-not-is_paragraph g c = let is : is_paragraph (mode_of c.args.engine.now.nest.level.kind) ≡ false = search rules in record { goes = mode-lacks g.C.Cells is_paragraph (material_begun list.Footnote) is c.requires.holds }

pub returns : goal.returns
unfolding footnote
returns g c = let is : is_paragraph (mode_of c.args.engine.now.nest.level.kind) ≡ true = search rules in record { goes = mode-wanted is_paragraph (material_begun list.Footnote) c.begin_material.result is c.begin_material.ensures.goes }
