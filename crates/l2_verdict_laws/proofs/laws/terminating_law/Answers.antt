use Rattle.l2_verdict_laws.proofs.Meaning.{terminating}
use Rattle.l2_verdict_laws.proofs.laws.terminating_law.Goals as goal

pub returns : goal.returns
returns c = terminating c.rank_law.ensures c.turn_bound.ensures.terminating c.code_has_the_sets_of_its_program.ensures.closed
