-- The numbers of statuses, and what is said of them.
use Rattle.std.specs.Prelude.{ℕ, List, [], ◌++◌, codes, decimal}
use Rattle.lb_base.specs.Kinds.{name_of}
use Rattle.lb_base.specs.declared.fault.Fault as fault
use Rattle.lb_run.specs.declared.status.Status.{Status}
use Rattle.lb_run.specs.declared.status.Status.TheVariants.{Done, Fault, Words, ReadFault, WriteFault, NoMemory, SayFault, TooLarge, NoMain}

abbrev pub number_of : Status → ℕ
number_of Done = 0
number_of (Fault fault) = 1
number_of Words = 2
number_of ReadFault = 3
number_of WriteFault = 4
number_of NoMemory = 5
number_of SayFault = 6
number_of (TooLarge what number) = 7
number_of NoMain = 8

abbrev pub fault_message : fault.Fault → List ℕ
fault_message f = codes "fault " ++ name_of f.kind ++ codes " " ++ f.file ++ codes ":" ++ decimal f.line

abbrev pub message_of : Status → List ℕ
message_of Done = []
message_of (Fault f) = fault_message f
message_of Words = codes "words refused"
message_of ReadFault = codes "read fault"
message_of WriteFault = codes "write fault"
message_of NoMemory = codes "no memory"
message_of SayFault = codes "print fault"
message_of (TooLarge what number) = codes "too large " ++ decimal number
message_of NoMain = codes "no main"
