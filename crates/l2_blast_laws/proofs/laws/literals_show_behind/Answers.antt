use Rattle.l2_blast_laws.proofs.Given.{circuits}
use Rattle.l2_blast_laws.proofs.Solving.{literals_show_behind as literals, numbers_show_behind as numbers}
use Rattle.l2_blast_laws.proofs.laws.literals_show_behind.Goals as goal

pub returns-clause-literals : goal.returns-clause-literals
returns-clause-literals c = literals circuits

pub returns-clause-numbers : goal.returns-clause-numbers
returns-clause-numbers c = numbers circuits
