-- Heads and feet, by the mark that stands at their side.
use Rattle.std.specs.Prelude.{Bool, List, [], ◌∷◌, ◌++◌, Option, None, Result, Ok, ℤ, if◌then◌else◌}
use Rattle.lb_base.specs.declared.fault.Kind.{Kind}
use Rattle.lb_base.specs.declared.glue.Target.TheVariants.{To}
use Rattle.lb_base.specs.declared.node.Axis.TheVariants.{Horizontal}
use Rattle.lb_base.specs.declared.node.Boxed.{Boxed}
use Rattle.lb_base.specs.declared.node.Node.{Node}
use Rattle.lb_model_paper.specs.declared.pages.HeadFoot.{HeadFoot}
use Rattle.lb_model_paper.specs.declared.pages.HeadFoot.TheVariants.{Neither, Foot, Head}
use Rattle.lb_model_paper.specs.Boxes.{packs}
use Rattle.lb_model_paper.specs.Nodes.{shown}
use Rattle.lb_model_paper.specs.Pages.{fil_glue}
use Rattle.lb_model_paper.specs.PageBoxes.{mark_nodes, some_box}

abbrev pub head_by : Bool → List Node → Option Boxed → List Node
head_by odd digits mark = if odd then mark_nodes mark ++ fil_glue ∷ digits else digits ++ fil_glue ∷ mark_nodes mark

abbrev pub running_by : HeadFoot → Bool → List Node → Option Boxed → ℤ → Result (Option Boxed) Kind
running_by Neither odd digits mark width = Ok None
running_by Foot odd digits mark width = some_box (packs Horizontal (shown (fil_glue ∷ (digits ++ fil_glue ∷ []))) (To width))
running_by Head odd digits mark width = some_box (packs Horizontal (shown (head_by odd digits mark)) (To width))
