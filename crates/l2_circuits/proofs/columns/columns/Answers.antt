use Rattle.std.proofs.Common.{ap, arith}
use Rattle.l2_gates.specs.Gates.{literal_of, literals_of}
use Rattle.l2_circuits.proofs.Passing.{ended}
use Rattle.l2_circuits.proofs.columns.columns.Goals as goal

pub returns-clause-bits : goal.returns-clause-bits
returns-clause-bits c =
    ap (λ s. s.bits) (ended c.args.kind c.args.a.now c.args.b.now c.loop-i.i (literals_of c.loop-i.bits.items) (literal_of c.loop-i.carry) c.loop-i.gates _ (omega arith) c.loop-i.invariant)

pub returns-clause-carry : goal.returns-clause-carry
returns-clause-carry c =
    ap (λ s. s.carry) (ended c.args.kind c.args.a.now c.args.b.now c.loop-i.i (literals_of c.loop-i.bits.items) (literal_of c.loop-i.carry) c.loop-i.gates _ (omega arith) c.loop-i.invariant)

pub returns-clause-made : goal.returns-clause-made
returns-clause-made c =
    ap (λ s. s.made) (ended c.args.kind c.args.a.now c.args.b.now c.loop-i.i (literals_of c.loop-i.bits.items) (literal_of c.loop-i.carry) c.loop-i.gates _ (omega arith) c.loop-i.invariant)
