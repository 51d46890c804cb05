-- The glue before a box.
use Rattle.std.specs.Prelude.{◌≡◌, ℤ, [], ◌∷◌, Ok, Err}
use Rattle.lb_base.specs.declared.fault.Kind.TheVariants.{DimenTooLarge}
use Rattle.lb_base.specs.declared.glue.Glue.{Glue as GlueSize}
use Rattle.lb_model_paper.specs.Breaks.{glue_node}
use Rattle.lb_model_paper.specs.Lines.{glue_nodes, interline}
use Rattle.lb_model_paper.specs.declared.paragraph.LineRules.{LineRules}
use Rattle.lb_lines.specs.declared.glue.Before.{Before}
use Rattle.lb_lines.specs.declared.glue.Before.TheVariants.{Nothing, Glue, TooWide}

abbrev pub IsGlueFor : LineRules → ℤ → ℤ → Before → Type 0
IsGlueFor rules prev height Nothing = interline rules prev height ≡ Ok []
IsGlueFor rules prev height (Glue glue) = interline rules prev height ≡ Ok (glue_node glue ∷ [])
IsGlueFor rules prev height TooWide = interline rules prev height ≡ Err DimenTooLarge

abbrev pub IsGlueOf : GlueSize → Before → Type 0
IsGlueOf meant Nothing = ⊥
IsGlueOf meant (Glue glue) = glue_nodes meant ≡ Ok (glue_node glue ∷ [])
IsGlueOf meant TooWide = glue_nodes meant ≡ Err DimenTooLarge
