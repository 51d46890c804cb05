-- The configuration of a desk over cells.
use Rattle.lb_values.specs.declared.value.Value.{Value}
use Rattle.lb_values.specs.Kept.{Kept}
use Rattle.lb_model.specs.Configs.{Config}
use Rattle.lb_model.specs.Stacked.{kinds_of, stacked}
use Rattle.lb_model.specs.declared.world.World.{World}
use Rattle.lb_expand.specs.declared.desk.Desk.{Desk}

-- the configuration of a desk in a world, where the cells hold this
abbrev pub config : World → Kept Value → Desk → Config
config w kept d =
    record {
      world = w;
      cells = stacked d.groups kept;
      groups = kinds_of d.groups;
      source = d.source;
      place = d.place;
      conditionals = d.conditionals;
      readings = d.readings;
      mode = d.mode;
      appends = d.appends.items;
      left = d.left;
    }
