-- The exit status of the program, by how it ended.
use Rattle.std.specs.Prelude.{ℕ}
use Rattle.rss_top.specs.declared.status.Status.{Status}
use Rattle.rss_top.specs.declared.status.Status.TheVariants.{Ok, Words, ReadFault, WriteFault, DeviceFault, NotAStore, Damaged, NoMemory, TooLong, WrongSize}

abbrev pub exit_status : Status → ℕ
exit_status Ok = 0
exit_status Words = 1
exit_status ReadFault = 2
exit_status WriteFault = 3
exit_status DeviceFault = 4
exit_status (NotAStore place) = 5
exit_status (Damaged place) = 10
exit_status NoMemory = 6
exit_status TooLong = 7
exit_status WrongSize = 8
