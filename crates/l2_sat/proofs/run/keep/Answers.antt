use Rattle.std.proofs.Common.{ap}
use Rattle.l2_sat.specs.Answers.{file_of}
use Rattle.l2_sat.proofs.run.keep.Goals as goal

pub returns-in-Some-clause-failed : goal.returns-in-Some-clause-failed
returns-in-Some-clause-failed g c = λ is. (c.write.ensures.failed is, (record { name = c.in-Some.written.name.now; bytes = c.in-Some.written.bytes.items }, ap file_of c.in-Some.is, c.write.ensures.others is))
