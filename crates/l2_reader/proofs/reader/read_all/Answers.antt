use Rattle.std.proofs.Common.{◌≡◌, [], map, refl, sym, ap, arith}
use Rattle.l2_grammar.specs.Limits.{read_on, size}
use Rattle.l2_reader.specs.Parts.{seen, tree_of}
use Rattle.l2_reader.proofs.Stepping.{empty_sound}
use Rattle.l2_reader.proofs.reader.read_all.Goals as goal

pub loop-token-init : goal.loop-token-init
loop-token-init c =
    let e = c.empty.ensures in
    let n : size (tree_of c.empty.result) ≡ 0 = ap (λ x. size x) e.tree in (
      ap (λ x. read_on (map seen c.args.tokens.now) 0 x []) (sym e.tree),
      record { run = empty_sound c.empty.result e.tree e.state e.sort e.size; stack = tt; within = omega arith },
      refl,
      omega arith,
    )
