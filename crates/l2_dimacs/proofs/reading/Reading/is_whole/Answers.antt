use Rattle.std.proofs.Common.{refl}
use Rattle.l2_dimacs.proofs.Whole.{test_whole}
use Rattle.l2_dimacs.proofs.reading.Reading.is_whole.Goals as goal

pub returns-in-Clauses : goal.returns-in-Clauses
returns-in-Clauses c = test_whole c.args.self.now c.in-Clauses.is c.requires _ refl
