-- What the sizes of boxes become.
use Rattle.std.specs.Prelude.{ℤ}
use Rattle.lb_base.specs.declared.node.Boxed.{Boxed}
use Rattle.lb_model_engine.specs.Boxes.{with_depth, with_height, with_width}
use Rattle.lb_engine.specs.declared.box_sizes.Size.{Size}
use Rattle.lb_engine.specs.declared.box_sizes.Size.TheVariants as size

-- the box with this width, height or depth
abbrev pub sized : Size → ℤ → Boxed → Boxed
sized size.Width n box = with_width n box
sized size.Height n box = with_height n box
sized size.Depth n box = with_depth n box
