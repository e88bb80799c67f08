use Rattle.l2_program.specs.Programs.{program_tree}
use Rattle.l2_code.specs.Sets.{family}
use Rattle.l2_rank_laws.specs.Moves.{SomeStay}
use Rattle.l2_missed.proofs.Asking.{of_none, of_some}
use Rattle.l2_turn_engine.proofs.Asked as asked
use Rattle.l2_turn_engine.proofs.asking.stays.Goals as goal

pub returns-in-Some : goal.returns-in-Some
returns-in-Some c =
    asked.at_number (λ l. SomeStay (program_tree c.args.cut.now.program) (family c.args.cut.now.sets).object c.args.cut.now.copies c.args.point.now l c.args.equal.now) c.stays_at.result _ c.args.at (of_some c.ranked_loop.result c.in-Some.i _ _ c.ranked_loop.ensures c.in-Some.is).0 c.stays_at.ensures

pub returns-in-None : goal.returns-in-None
returns-in-None c =
    asked.never (SomeStay (program_tree c.args.cut.now.program) (family c.args.cut.now.sets).object c.args.cut.now.copies c.args.point.now c.args.at c.args.equal.now)
    (c.none_at_bottom.ensures.stays (program_tree c.args.cut.now.program) c.args.cut.now.sets c.args.cut.now.copies c.args.point.now c.args.at (of_none c.ranked_loop.result _ _ c.ranked_loop.ensures c.in-None.is) c.args.equal.now)
