use Rattle.std.proofs.Common.{ap, suc}
use Rattle.l2_program.specs.Programs.{program_tree}
use Rattle.l2_code.specs.Trees.{code_of}
use Rattle.l2_code.specs.Sets.{family}
use Rattle.l2_rank_laws.specs.Moves.{SomeStay}
use Rattle.l2_turn_engine.proofs.Asked as asked
use Rattle.l2_turn_engine.proofs.asking.stays_at.Goals as goal

pub is_missed-requires-clause-inside : goal.is_missed-requires-clause-inside
is_missed-requires-clause-inside c =
    (asked.stays (program_tree c.args.cut.now.program) (code_of c.args.cut.now.code) (code_of c.code-code.result.now) c.args.cut.now.sets c.code-code.ensures.belongs (ap code_of c.code-code.ensures.is) c.args.cut.now.copies c.code-code.ensures.some c.args.point.now c.if-not-is_point_of.ensures c.args.i c.requires.within c.requires.ranked
    c.turns_tell.ensures.stays c.args.equal.now c.in_ok-ranks.ranks c.if-not-are_forms_of.ensures c.in_ok-ranks.ensures c.in_ok-goals.goals c.in_ok-goals.ensures).0

pub returns : goal.returns
returns c =
    asked.told c.is_missed.result c.in_ok-goals.goals c.args.point.now c.args.i (SomeStay (program_tree c.args.cut.now.program) (family c.args.cut.now.sets).object c.args.cut.now.copies c.args.point.now (suc c.args.i) c.args.equal.now)
    (asked.stays (program_tree c.args.cut.now.program) (code_of c.args.cut.now.code) (code_of c.code-code.result.now) c.args.cut.now.sets c.code-code.ensures.belongs (ap code_of c.code-code.ensures.is) c.args.cut.now.copies c.code-code.ensures.some c.args.point.now c.if-not-is_point_of.ensures c.args.i c.requires.within c.requires.ranked
    c.turns_tell.ensures.stays c.args.equal.now c.in_ok-ranks.ranks c.if-not-are_forms_of.ensures c.in_ok-ranks.ensures c.in_ok-goals.goals c.in_ok-goals.ensures) c.is_missed.ensures
