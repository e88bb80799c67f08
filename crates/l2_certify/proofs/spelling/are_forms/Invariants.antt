use Rattle.l2_cert.specs.Certificate.{IsForm}
use Rattle.l2_certify.proofs.Spelt.{AreBefore}
use Rattle.l2_certify.proofs.spelling.are_forms.Given as goal

abbrev pub invariant-loop-i : goal.invariant-loop-i
invariant-loop-i l = AreBefore IsForm l.forms l.i
