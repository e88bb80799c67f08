use Rattle.std.specs.Int.{w128}
use Rattle.std.proofs.lemmas.Int.{to_z-of_z}
use Rattle.l2_program.specs.Programs.{program_tree}
use Rattle.l2_code.specs.Sets.{family}
use Rattle.l2_row_engine.proofs.Answering.{by_above}
use Rattle.l2_row_engine.proofs.engine.RowEngineAsks.row.Goals as goal

pub returns-clause-is : goal.returns-clause-is
returns-clause-is c =
    by_above (program_tree c.args.self.now.cut.program) (family c.args.self.now.cut.sets).object c.args.self.now.cut.copies c.args.point.now c.args.broken.at c.args.broken.row c.args.above _ c.exceeds.result (to_z-of_z w128 c.args.above c.ranges.above) c.exceeds.ensures
