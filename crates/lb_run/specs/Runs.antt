-- How a run may end, and what it then has written.
use Rattle.std.specs.Prelude.{◌≡◌, ℕ, List, Option, None, IfSome}
use Rattle.std.specs.FinMap.{get}
use Rattle.lb_base.specs.declared.fault.Fault as fault
use Rattle.lb_base.specs.declared.fault.Kind.TheVariants.{NotYet}
use Rattle.lb_base.specs.declared.moment.Moment.{Moment}
use Rattle.lb_model.specs.declared.world.World.{World}
use Rattle.lb_model.specs.Files.{Files}
use Rattle.lb_model.specs.Worlds.{world_of}
use Rattle.lb_model_book.specs.declared.end.End.TheVariants as ends
use Rattle.lb_model_book.specs.PlainForm.{tex_file}
use Rattle.lb_model.specs.Journal.{Entry, Adds, AddsPrefix}
use Rattle.lb_model_book.specs.Books.{journal, end_of}
use Rattle.lb_run.specs.declared.status.Status.{Status}
use Rattle.lb_run.specs.declared.status.Status.TheVariants.{Done, Fault, Words, ReadFault, WriteFault, NoMemory, SayFault, TooLarge, NoMain}

-- what holds of the world of a run, where the folder tells its files and the words name a main file
abbrev pub ForWorld : Option Files → Option (List ℕ) → Moment → (World → Type 0) → Type 0
ForWorld told main moment P = IfSome told (λ files. IfSome main (λ name. P (world_of files name moment)))

-- after these nothing was written
abbrev pub WritesNothing : Status → Type 0
WritesNothing Done = ⊥
WritesNothing WriteFault = ⊥
WritesNothing NoMemory = ⊥
WritesNothing (Fault fault) = Unit {0}
WritesNothing Words = Unit {0}
WritesNothing ReadFault = Unit {0}
WritesNothing SayFault = Unit {0}
WritesNothing (TooLarge what number) = Unit {0}
WritesNothing NoMain = Unit {0}

-- after these the first part of what was to be written may stand
abbrev pub MayStopShort : Status → Type 0
MayStopShort Done = ⊥
MayStopShort WriteFault = Unit {0}
MayStopShort NoMemory = Unit {0}
MayStopShort (Fault fault) = ⊥
MayStopShort Words = ⊥
MayStopShort ReadFault = ⊥
MayStopShort SayFault = ⊥
MayStopShort (TooLarge what number) = ⊥
MayStopShort NoMain = ⊥

-- a form that is not built, of the whole main file
abbrev pub not_yet : List ℕ → fault.Fault
not_yet main = record { kind = NotYet; file = tex_file main; line = 0 }

-- the statuses that a run has today: nothing is said, and no limit of size is set
abbrev pub IsMetToday : Status → Type 0
IsMetToday Done = Unit {0}
IsMetToday (Fault f) = Unit {0}
IsMetToday Words = Unit {0}
IsMetToday ReadFault = Unit {0}
IsMetToday WriteFault = Unit {0}
IsMetToday NoMemory = Unit {0}
IsMetToday SayFault = ⊥
IsMetToday (TooLarge what number) = ⊥
IsMetToday NoMain = Unit {0}

-- the world has no main file
abbrev pub IsMissing : World → Type 0
IsMissing world = get world.files (tex_file world.main) ≡ None

-- What a status of a run says of its world. Of a fault of the outside and of want of memory it says nothing here.
abbrev pub IsAnswer : World → Status → Type 0
IsAnswer world Done = (end_of world ≡ ends.Done) × (IsMissing world → ⊥)
IsAnswer world (Fault f) = (end_of world ≡ ends.Fault f) × (IsMissing world → ⊥)
IsAnswer world Words = ⊥
IsAnswer world ReadFault = ⊥
IsAnswer world WriteFault = IsMissing world → ⊥
IsAnswer world NoMemory = Unit {0}
IsAnswer world SayFault = ⊥
IsAnswer world (TooLarge what number) = ⊥
IsAnswer world NoMain = IsMissing world

-- where the main file is missing, a run ends so
abbrev pub IsWithoutMain : Status → Type 0
IsWithoutMain Done = ⊥
IsWithoutMain (Fault f) = ⊥
IsWithoutMain Words = ⊥
IsWithoutMain ReadFault = Unit {0}
IsWithoutMain WriteFault = ⊥
IsWithoutMain NoMemory = Unit {0}
IsWithoutMain SayFault = ⊥
IsWithoutMain (TooLarge what number) = ⊥
IsWithoutMain NoMain = Unit {0}

-- where it is there, a run ends so
abbrev pub IsWithMain : Status → Type 0
IsWithMain Done = Unit {0}
IsWithMain (Fault f) = Unit {0}
IsWithMain Words = ⊥
IsWithMain ReadFault = Unit {0}
IsWithMain WriteFault = Unit {0}
IsWithMain NoMemory = Unit {0}
IsWithMain SayFault = ⊥
IsWithMain (TooLarge what number) = ⊥
IsWithMain NoMain = ⊥

-- and so where nothing outside failed besides
abbrev pub IsSettled : Status → Type 0
IsSettled Done = Unit {0}
IsSettled (Fault f) = Unit {0}
IsSettled Words = ⊥
IsSettled ReadFault = ⊥
IsSettled WriteFault = ⊥
IsSettled NoMemory = Unit {0}
IsSettled SayFault = ⊥
IsSettled (TooLarge what number) = ⊥
IsSettled NoMain = ⊥

-- What a run of a main file says and writes, where the folder tells its files. The journal of its outlet was `before` and is `now`.
pub record IsRun (told : Option Files) (main : Option (List ℕ)) (moment : Moment) (before now : Option (List Entry)) (result : Status) : Type 0 where
  pub done : result ≡ Done → ForWorld told main moment (λ world. end_of world ≡ ends.Done)
  pub written : result ≡ Done → ForWorld told main moment (λ world. Adds before now (journal world))
  pub fault : (f : fault.Fault) → result ≡ Fault f → ForWorld told main moment (λ world. end_of world ≡ ends.Fault f)
  pub no_main : result ≡ NoMain → ForWorld told main moment IsMissing
  pub missing : ForWorld told main moment (λ world. IsMissing world → IsWithoutMain result)
  pub present : ForWorld told main moment (λ world. (IsMissing world → ⊥) → IsWithMain result)
  pub part : MayStopShort result → ForWorld told main moment (λ world. AddsPrefix before now (journal world))
  pub nothing : WritesNothing result → now ≡ before
