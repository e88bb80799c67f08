use Rattle.l2_templates.specs.declared.point.LoopPoint.TheVariants.{Bottom}
use Rattle.l2_cert.specs.Certificate.{IsLoop}
use Rattle.l2_certify.proofs.Spelt.{AreAt}
use Rattle.l2_certify.proofs.spelling.are_loops.Given as goal

abbrev pub invariant-loop-i : goal.invariant-loop-i
invariant-loop-i l = AreAt Bottom IsLoop l.point l.i
