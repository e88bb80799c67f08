use Rattle.std.specs.Int.{w128}
use Rattle.std.proofs.lemmas.Int.{to_z-of_z}
use Rattle.l2_program.specs.Programs.{program_tree}
use Rattle.l2_code.specs.Sets.{family}
use Rattle.l2_row_engine.proofs.Answering.{raised_is}
use Rattle.l2_row_engine.proofs.questions.exceeds_in.Goals as goal

pub returns : goal.returns
returns c =
    raised_is (program_tree c.args.cut.now.program) (family c.args.cut.now.sets).object c.args.cut.now.copies c.args.point.now
    (c.raised_law.ensures (program_tree c.args.cut.now.program) (family c.args.cut.now.sets).object c.args.cut.now.copies c.args.point.now)
    c.args.l c.args.row c.args.above _ c.args.rows.now c.get-bound.result.0 c.in_ok-raised.raised c.requires.at c.requires.inside c.requires.askable (to_z-of_z w128 c.args.above c.ranges.above) c.in_ok-raised.ensures c.get-bound.ensures.form c.fails_first.result c.fails_first.ensures
