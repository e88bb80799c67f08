-- The exit statuses.
use Rattle.std.specs.Prelude.{ℕ}
use Rattle.l2_status.specs.declared.status.Status.{Status}
use Rattle.l2_status.specs.declared.status.Status.TheVariants.{Fine, Usage, ReadFault, WriteFault, NoMemory, Unknown, Refused, FileRefused, TooLong, Short, Unsafe}

abbrev pub status_number : Status → ℕ
status_number Fine = 0
status_number Usage = 1
status_number ReadFault = 2
status_number WriteFault = 3
status_number NoMemory = 4
status_number Unknown = 5
status_number Refused = 6
status_number FileRefused = 7
status_number TooLong = 8
status_number Short = 9
status_number Unsafe = 10
