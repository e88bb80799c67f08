use Rattle.std.specs.Int.{w128}
use Rattle.std.proofs.lemmas.Int.{to_z-of_z}
use Rattle.l2_program.specs.Programs.{program_tree}
use Rattle.l2_code.specs.Sets.{family}
use Rattle.l2_row_engine.proofs.Answering.{by_number, bottom_is}
use Rattle.l2_row_engine.proofs.questions.exceeds.Goals as goal

pub returns-in-Rows : goal.returns-in-Rows
returns-in-Rows c =
    by_number (program_tree c.args.cut.now.program) (family c.args.cut.now.sets).object c.args.cut.now.copies c.args.point.now c.args.broken.at c.args.broken.row c.args.above _ c.exceeds_in.result c.requires.some (to_z-of_z w128 c.args.above c.ranges.above) c.exceeds_in.ensures

pub returns-then-broken-eq0 : goal.returns-then-broken-eq0
returns-then-broken-eq0 c =
    bottom_is (program_tree c.args.cut.now.program) (family c.args.cut.now.sets).object c.args.cut.now.copies c.args.point.now
    (c.bottom_law.ensures (program_tree c.args.cut.now.program) (family c.args.cut.now.sets).object c.args.cut.now.copies c.args.point.now)
    c.args.broken.at c.args.broken.row c.args.above c.get.result.now c.requires.some c.get.ensures c.in-Bottom.is c.if-broken-eq0.true c.fails_first.result c.fails_first.ensures

pub returns-else-broken-eq0 : goal.returns-else-broken-eq0
returns-else-broken-eq0 c = tt
