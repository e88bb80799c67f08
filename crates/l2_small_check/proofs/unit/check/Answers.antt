use Rattle.l2_small.specs.SmallTrees.{small_unit_tree}
use Rattle.l2_small_check.proofs.LawfulPrograms.{lawful_ok}
use Rattle.l2_small_check.proofs.unit.check.Goals as goal

pub returns-clause-lawful : goal.returns-clause-lawful
returns-clause-lawful c = lawful_ok (small_unit_tree c.args.unit) c.program_of.result c.program_of.ensures.ok
