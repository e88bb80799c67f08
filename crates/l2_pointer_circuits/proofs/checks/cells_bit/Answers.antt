use Rattle.std.proofs.Common.{get_or, refl}
use Rattle.l2_runs.specs.declared.member.Member.TheVariants.{Null}
use Rattle.l2_gates.specs.Gates.{literal_of, literals_of}
use Rattle.l2_code.specs.Trees.{code_of}
use Rattle.l2_code.specs.Modes.{types_of}
use Rattle.l2_pointer_circuits.specs.Words.{at_bit}
use Rattle.l2_pointer_circuits.proofs.Loops.{more_places}
use Rattle.l2_pointer_circuits.proofs.checks.cells_bit.Goals as goal

pub loop-member-preserved : goal.loop-member-preserved
loop-member-preserved c =
    let set = c.args.set.now in
    let i = c.loop-member.member-index in
    more_places (λ p. at_bit p (literals_of c.args.a.now)) (types_of (code_of c.args.code.now)).objects c.args.types.now set i (get_or set i Null) Null (literal_of c.loop-member.any) (literal_of c.in_ok-any.any) c.loop-member.gates c.or_member_places.new.gates
    _ c.loop-member-test.true refl c.in_ok-any.ensures.is c.in_ok-any.ensures.made c.loop-member.invariant
