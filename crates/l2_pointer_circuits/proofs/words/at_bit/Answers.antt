use Rattle.std.proofs.Common.{◌≡◌, IfOk, OnOk, subst}
use Rattle.l2_gates.specs.Gates.{literal_of, literals_of}
use Rattle.l2_pointer_circuits.specs.Tests.{place}
use Rattle.l2_pointer_circuits.specs.Words.{at_bit}
use Rattle.l2_pointer_circuits.proofs.words.at_bit.Goals as goal

pub returns-clause-is : goal.returns-clause-is
returns-clause-is c = subst (λ n. IfOk c.place_bit.result (λ l. literal_of l ≡ (at_bit (place c.args.object n) (literals_of c.args.a.now) c.args.gates.now).bit)) c.from.ensures c.place_bit.ensures.is

pub returns-clause-made : goal.returns-clause-made
returns-clause-made c = subst (λ n. OnOk c.place_bit.result (c.place_bit.new.gates ≡ (at_bit (place c.args.object n) (literals_of c.args.a.now) c.args.gates.now).made)) c.from.ensures c.place_bit.ensures.made
