-- The whole configuration of a nest over cells.
use Rattle.std.specs.Prelude.{◌≡◌, ◌++◌, ⊤, ℕ, List, Option}
use Rattle.lb_values.specs.declared.value.Value.{Value}
use Rattle.lb_values.specs.Kept.{Kept}
use Rattle.lb_model.specs.declared.group.Group.{Group}
use Rattle.lb_model.specs.declared.place.Place.{Place}
use Rattle.lb_model.specs.declared.world.World.{World}
use Rattle.lb_model.specs.Settings.{Setting}
use Rattle.lb_model.specs.Stacked.{Standing, kinds_of, stacked}
use Rattle.lb_model_nest.specs.Wholes.{Whole, mode_of}
use Rattle.lb_fonts.specs.Shelves.{AreRight, Kept as KeptFont}
use Rattle.lb_nest.specs.declared.nest.Nest.{Nest}

-- with any rest, of which it has the source, the place, the conditionals, the readings, the appends before, the environments whose ends are
-- under way, and whether spaces are skipped
abbrev pub whole : Whole → Setting → Kept Value → List Group → ℕ → Nest → Whole
whole rest p kept groups left nest =
    record {
      feed = record rest.feed {
        world = p.world;
        cells = stacked groups kept;
        groups = kinds_of groups;
        mode = mode_of nest.level.kind;
        appends = rest.feed.appends ++ nest.entries;
        left = left;
      };
      level = nest.level;
      around = nest.around;
      word = nest.word;
      font = nest.font;
      page = nest.page;
      after = nest.after;
      lists = nest.lists;
      ending = rest.ending;
      skips_spaces = rest.skips_spaces;
      plain_next = nest.plain_next;
    }

-- every rest, and those at a place
abbrev pub anywhere : Whole → Type 0
anywhere rest = ⊤

abbrev pub at_place : Option Place → Whole → Type 0
at_place place rest = rest.feed.place ≡ place

-- the fonts that are kept are right
unfoldable pub HasRight : World → List KeptFont → Type 0
HasRight w fonts = AreRight w fonts

-- what holds of cells, groups and nest all along: as many saves stand as the open groups have made, and the fonts that are kept are right
pub record Keeps (p : Setting) (kept : Kept Value) (groups : List Group) (nest : Nest) : Type 0 where
  pub standing : Standing groups kept
  pub fonts : HasRight p.world nest.shelf
