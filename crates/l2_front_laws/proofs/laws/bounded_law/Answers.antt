use Rattle.l2_front_laws.proofs.Bounding.{ends, infers, proves, turns}
use Rattle.l2_front_laws.proofs.laws.bounded_law.Goals as goal

pub returns-clause-ends : goal.returns-clause-ends
returns-clause-ends c = ends

pub returns-clause-infers : goal.returns-clause-infers
returns-clause-infers c = infers

pub returns-clause-proves : goal.returns-clause-proves
returns-clause-proves c = proves

pub returns-clause-turns : goal.returns-clause-turns
returns-clause-turns c = turns
