use Rattle.std.proofs.Common.{refl}
use Rattle.l2_derivation_file.proofs.Files.{part_elsewhere, whole_where_over}
use Rattle.l2_derivation_file.proofs.reading.Reading.is_whole.Goals as goal

pub returns-in-Over : goal.returns-in-Over
returns-in-Over c = whole_where_over c.args.self.now c.in-Over.is

pub returns-in_default : goal.returns-in_default
returns-in_default c = part_elsewhere c.args.self.now c.args.self.now.stage refl c.in_default.not-Over
