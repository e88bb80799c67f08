use Rattle.std.proofs.Common.{length, drop, sym, ap, ◌∙◌}
use Rattle.l2_gates.specs.Gates.{literal_of, literals_of}
use Rattle.l2_circuits.specs.Words.{resized}
use Rattle.l2_circuits.proofs.Bits.{literals_length, literals_drop}
use Rattle.l2_circuits.proofs.shifts.down.Goals as goal

pub returns : goal.returns
returns c =
    let a = c.args.a.now in
    let fill = literal_of c.args.fill in
    c.in_ok-word.ensures ∙ ap (λ r. resized (length a) fill (literals_of r)) c.behind.ensures
    ∙ ap (λ l. resized (length a) fill l) (sym (literals_drop a c.args.k)) ∙ ap (λ n. resized n fill (drop c.args.k (literals_of a))) (sym (literals_length a))
