use Rattle.l2_cert.specs.Certificate.{IsRow}
use Rattle.l2_certify.proofs.Spelt.{AreBefore}
use Rattle.l2_certify.proofs.spelling.are_rows.Given as goal

abbrev pub invariant-loop-i : goal.invariant-loop-i
invariant-loop-i l = AreBefore IsRow l.rows l.i
