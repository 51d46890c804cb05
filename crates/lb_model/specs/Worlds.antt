-- The world of a run.
use Rattle.std.specs.Prelude.{ℕ, List, []}
use Rattle.lb_base.specs.declared.moment.Moment.{Moment}
use Rattle.lb_model.specs.declared.world.World.{World}
use Rattle.lb_model.specs.Files.{Files, book_files}

-- what a run of this main file at this moment can depend on, where the words name no more and the folder has these files
abbrev pub world_of : Files → List ℕ → Moment → World
world_of files main moment = record { files = book_files files; main = main; prefix = []; steps = 50000000; moment = moment }
