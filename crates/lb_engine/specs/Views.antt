-- The whole configuration of an engine over cells.
use Rattle.std.specs.Prelude.{◌≡◌, ◌++◌, []}
use Rattle.lb_values.specs.declared.value.Value.{Value}
use Rattle.lb_values.specs.Kept.{Kept}
use Rattle.lb_model.specs.Settings.{Setting}
use Rattle.lb_model_nest.specs.Wholes.{Whole, mode_of}
use Rattle.lb_expand.specs.Views.{config}
use Rattle.lb_engine.specs.declared.engine.Engine.{Engine}

-- the mode is that of the innermost list, and what the nest adds to the journal comes behind what was added before
abbrev pub whole : Setting → Kept Value → Engine → Whole
whole p kept e =
    record {
      feed = record (config p.world kept e.desk) { mode = mode_of e.nest.level.kind; appends = e.desk.appends.items ++ e.nest.entries };
      level = e.nest.level;
      around = e.nest.around;
      word = e.nest.word;
      font = e.nest.font;
      page = e.nest.page;
      after = e.nest.after;
      lists = e.nest.lists;
      ending = e.ending;
      skips_spaces = e.skips_spaces;
      plain_next = e.nest.plain_next;
    }

-- some of what the nest had added to the journal stands at the desk now
pub record Writes (new old : Engine) : Type 0 where
  pub appends : new.desk.appends.items ++ new.nest.entries ≡ old.desk.appends.items ++ old.nest.entries
  pub desk : new.desk ≡ record old.desk { appends = new.desk.appends }
  pub engine : new ≡ record old { desk = new.desk; nest = record old.nest { entries = new.nest.entries } }

-- all of it does
pub record IsWritten (new old : Engine) : Type 0 where
  pub writes : Writes new old
  pub none : new.nest.entries ≡ []

-- and the desk has the mode of the innermost list: what the desk has is what the feed of the whole configuration has
pub record IsReady (new old : Engine) : Type 0 where
  pub same : (p : Setting) (k : Kept Value) → whole p k new ≡ whole p k old
  pub fed : (p : Setting) (k : Kept Value) → (whole p k new).feed ≡ config p.world k new.desk
  pub none : new.nest.entries ≡ []
  pub mode : new.desk.mode ≡ mode_of new.nest.level.kind
  pub groups : new.desk.groups ≡ old.desk.groups
  pub nest : new.nest ≡ record old.nest { entries = new.nest.entries }
