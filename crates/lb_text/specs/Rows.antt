-- A font with one step, its ligature, and the parameters of the test font at 10pt.
use Rattle.std.specs.Prelude.{[], ◌∷◌, ◌++◌, replicate, Some, None, false, pos}
use Rattle.lb_base.specs.declared.font.LigStep.TheVariants.{Lig}
use Rattle.lb_base.specs.declared.font.Metrics.{Metrics}
use Rattle.lb_base.specs.declared.font.Parameters.{Parameters}
use Rattle.lb_base.specs.declared.node.Node.{Node, Lig as LigNode}
use Rattle.lb_model_paper.specs.Fonts.{FontData}

abbrev pub square : Metrics
square = record { width = pos 327680; height = pos 491520; depth = pos 163840; italic = pos 0 }

abbrev pub space_parameters : Parameters
space_parameters = record { slant = pos 0; space = pos 196608; stretch = pos 65536; shrink = pos 65536; x_height = pos 327680; quad = pos 655360; extra_space = pos 65536 }

-- each code is a character, and behind 102 a ligature 174 takes the place of both where 105 follows
abbrev pub small_font : FontData
small_font = record {
  id = record { name = []; size = pos 655360; check = 0; design = 655360 };
  parameters = space_parameters;
  metrics = replicate 256 (Some square);
  steps = record { skip = 128; next = 105; action = Lig 174 false false 0 } ∷ [];
  starts = replicate 102 None ++ Some 0 ∷ [];
  edge_start = None;
  edge_code = None;
}

abbrev pub fi : Node
fi = LigNode (record { font = small_font.id; code = 174; metrics = square; letters = 102 ∷ 105 ∷ [] })
