use Rattle.l2_lines.proofs.Cuts.{concat-lines_of, lines_of_are}
use Rattle.l2_lines.proofs.line.lines_law.Goals as goal

pub returns-clause-joined : goal.returns-clause-joined
returns-clause-joined c = concat-lines_of c.args._text.now

pub returns-clause-cut : goal.returns-clause-cut
returns-clause-cut c = lines_of_are c.args._text.now
