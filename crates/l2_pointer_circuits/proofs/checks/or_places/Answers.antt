use Rattle.std.proofs.Common.{◌-◌, length, drop, ap, ◌∙◌, arith}
use Rattle.std.proofs.lemmas.List.{take_all, length-drop}
use Rattle.l2_runs.specs.declared.cells.CellType.TheVariants.{Pointer}
use Rattle.l2_gates.specs.Gates.{literal_of, literals_of}
use Rattle.l2_code.specs.Values.{begins_with}
use Rattle.l2_pointer_circuits.specs.Words.{at_bit}
use Rattle.l2_pointer_circuits.proofs.Loops.{more_cells}
use Rattle.l2_pointer_circuits.proofs.checks.or_places.Goals as goal

pub loop-i-preserved : goal.loop-i-preserved
loop-i-preserved c =
    let cells = c.args.cells.now in
    let i = c.loop-i.i in
    let rest = take_all (length cells - i) (drop i cells) (let e = length-drop i cells in omega arith) in
    more_cells (λ p. at_bit p (literals_of c.args.a.now)) c.args.types.now c.args.object i cells Pointer c.begins_with-stands.result (literal_of c.loop-i.any) (literal_of c.in_ok-any.any) c.loop-i.gates c.or_place.new.gates
    _ c.loop-i-test.true (c.begins_with-stands.ensures ∙ ap (begins_with c.args.types.now) rest) c.in_ok-any.ensures.is c.in_ok-any.ensures.made c.loop-i.invariant
