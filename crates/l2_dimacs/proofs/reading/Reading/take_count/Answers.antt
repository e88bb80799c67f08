use Rattle.std.proofs.Common.{arith}
use Rattle.l2_dimacs.specs.Tokens.{token}
use Rattle.l2_dimacs.specs.declared.reading.Stage.TheVariants.{Count}
use Rattle.l2_dimacs.proofs.Spelling.{small_number}
use Rattle.l2_dimacs.proofs.Whole.{stops_from}
use Rattle.l2_dimacs.proofs.reading.Reading.take_count.Goals as goal

pub returns-in_default-clause-bad : goal.returns-in_default-clause-bad
returns-in_default-clause-bad c = λ failed.
    stops_from c.args.self.now (token c.args.line c.args.word.now) Count c.requires.stage (λ rest v clauses x.
    let (n, here, number, body) = x.1 in
    c.in_default.ensures n here (omega (arith, small_number c.args.word.now n number)) number)
