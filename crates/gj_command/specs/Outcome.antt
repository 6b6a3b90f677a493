-- own: the status that the program ends with.
use Rattle.std.specs.Prelude.{ℕ}
use Rattle.gj_command.specs.declared.outcome.Outcome.{Outcome}
use Rattle.gj_command.specs.declared.outcome.Outcome.TheVariants.{Done, Ended, Fault, Usage, ReadFault, WriteFault, TooLong, BadScript, Stuck, Stopped, NoMemory, Internal}

abbrev pub status_of : Outcome → ℕ
status_of Done = 0
status_of (Ended code) = code
status_of (Fault fault) = 1
status_of Usage = 64
status_of ReadFault = 66
status_of WriteFault = 74
status_of TooLong = 65
status_of (BadScript place) = 65
status_of (Stuck place) = 70
status_of (Stopped steps) = 75
status_of NoMemory = 71
status_of Internal = 70
