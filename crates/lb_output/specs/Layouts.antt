-- The items of a page's box, by what is known of the page.
use Rattle.std.specs.Prelude.{List, ◌∷◌, ◌++◌, Option, Result, Ok, Err, ℤ, pos, nat_lt, if◌then◌else◌}
use Rattle.lb_base.specs.declared.fault.Kind.{Kind}
use Rattle.lb_base.specs.declared.fault.Kind.TheVariants.{DepthLimit}
use Rattle.lb_base.specs.declared.glue.Order.TheVariants.{Finite}
use Rattle.lb_base.specs.declared.node.Axis.TheVariants.{Vertical}
use Rattle.lb_model_paper.specs.Boxes.{nesting_of_list}
use Rattle.lb_base.specs.declared.node.Boxed.{Boxed, roll-Boxed}
use Rattle.lb_base.specs.declared.node.Node.{Node}
use Rattle.lb_model_paper.specs.PageBoxes.{box_at, feet_items, foot_items, foot_of, head_items, head_of, kern}
use Rattle.lb_output.specs.declared.building.Layout.{Layout}
use Rattle.lb_output.specs.declared.heights.Heights.{Heights}

abbrev pub items_by : Layout → ℤ → List Node → Boxed → Option Boxed → List Node
items_by look used feet body running =
    kern look.lengths.topmargin ∷ kern look.lengths.headheight ∷ (head_items look.margin (head_of look.style running)
    ++ kern look.lengths.headsep ∷ box_at look.margin body ∷ (feet_items look.margin feet
    ++ foot_items look.lengths look.margin used (foot_of look.style running)))

abbrev pub boxed_by : Layout → Heights → List Node → Boxed
boxed_by look heights items = roll-Boxed (record {
  axis = Vertical;
  items = items;
  width = look.lengths.textwidth;
  height = heights.page;
  depth = pos 0;
  shift = pos 0;
  glue_set = record { excess = pos 0; order = Finite };
})

-- the page's box, at most 500 of whose boxes stand inside one another
abbrev pub nested_by : Layout → Heights → List Node → Result Boxed Kind
nested_by look heights items = if nat_lt 500 (nesting_of_list items) then Err DepthLimit else Ok (boxed_by look heights items)
