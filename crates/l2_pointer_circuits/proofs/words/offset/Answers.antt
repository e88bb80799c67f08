use Rattle.std.proofs.Common.{◌-◌, length, drop, sym, ap, ◌∙◌, arith}
use Rattle.std.proofs.lemmas.List.{take_all, length-drop}
use Rattle.l2_gates.specs.Gates.{literals_of}
use Rattle.l2_pointer_circuits.proofs.Bits.{literals_drop}
use Rattle.l2_pointer_circuits.proofs.words.offset.Goals as goal

pub returns-then-a-gt17 : goal.returns-then-a-gt17
returns-then-a-gt17 c =
    let a = c.args.a.now in
    ap literals_of (take_all (length a - 17) (drop 17 a) (let e = length-drop 17 a in omega arith)) ∙ sym (literals_drop a 17)
