-- The nodes of spaces.
use Rattle.std.specs.Prelude.{Bool, true, false, pos, List, [], ◌∷◌}
use Rattle.lb_base.specs.declared.glue.Glue.{Glue}
use Rattle.lb_base.specs.declared.node.Node.{Node, Glue as GlueNode, Penalty as PenaltyNode, Rule as RuleNode}
use Rattle.lb_base.specs.declared.node.RuleSize.{RuleSize}
use Rattle.lb_model.specs.Kinds.{no_glue}
use Rattle.lb_model_nest.specs.Items.{fil}
use Rattle.lb_model_nest.specs.Paragraphs.{forced_break}

-- the end of a line
abbrev pub line_end : List Node
line_end = PenaltyNode (pos 10000) ∷ GlueNode fil ∷ forced_break ∷ []

-- glue, which with a star stands behind a rule
abbrev pub space_nodes : Bool → RuleSize → Glue → List Node
space_nodes false rule glue = GlueNode glue ∷ []
space_nodes true rule glue = RuleNode rule ∷ PenaltyNode (pos 10000) ∷ GlueNode glue ∷ GlueNode no_glue ∷ []
