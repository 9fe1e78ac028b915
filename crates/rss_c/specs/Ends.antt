-- How calls end: their numbers, and the lines that the program writes where it ends so.
use Rattle.std.specs.Prelude.{ℕ, List, []}
use Rattle.rss_base.specs.declared.fault.OpenFault.{OpenFault}
use Rattle.rss_base.specs.declared.fault.OpenFault.TheVariants.{Device as DeviceFailed, NotAStore as NoStore, Damaged as DamagedAt, WrongSize as NoSize, NoMemory as NoRoom}
use Rattle.rss_model.specs.ReplyText.{not_a_store_line, damaged_line}
use Rattle.rss_top.specs.Exit.{exit_status}
use Rattle.rss_top.specs.declared.status.Status.{Status}
use Rattle.rss_top.specs.declared.status.Status.TheVariants.{DeviceFault, NotAStore, Damaged, NoMemory, WrongSize}
use Rattle.rss_c.specs.declared.ended.Ended.{Ended}
use Rattle.rss_c.specs.declared.ended.Ended.TheVariants.{As, NotOpen, AlreadyOpen, Stopped, NoLine}

abbrev pub end_number : Ended → ℕ
end_number (As status) = exit_status status
end_number NotOpen = 20
end_number AlreadyOpen = 21
end_number Stopped = 22
end_number NoLine = 23

abbrev pub fault_status : OpenFault → Status
fault_status DeviceFailed = DeviceFault
fault_status (NoStore place) = NotAStore place
fault_status (DamagedAt place) = Damaged place
fault_status NoSize = WrongSize
fault_status NoRoom = NoMemory

-- the line that the program writes where it ends so
abbrev pub line_of : Status → List ℕ
line_of (NotAStore place) = not_a_store_line place
line_of (Damaged place) = damaged_line place
line_of status = []
