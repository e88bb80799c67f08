-- The exit statuses.
use Rattle.std.specs.Prelude.{ℕ}
use Rattle.l2_sat.specs.declared.status.SatStatus.{SatStatus}
use Rattle.l2_sat.specs.declared.status.SatStatus.TheVariants.{Accepted, Usage, ReadFault, WriteFault, NoMemory, FormulaRefused, FileRefused, TooLong, Satisfiable, Unsatisfiable}

abbrev pub status_number : SatStatus → ℕ
status_number Accepted = 0
status_number Usage = 1
status_number ReadFault = 2
status_number WriteFault = 3
status_number NoMemory = 4
status_number FormulaRefused = 6
status_number FileRefused = 7
status_number TooLong = 8
status_number Satisfiable = 10
status_number Unsatisfiable = 20
