-- The words of variables as definitions speak of them.
use Rattle.std.specs.Prelude.{List, map}
use Rattle.std.specs.declared.vec.Vec.{Vec}
use Rattle.std.specs.declared.alloc.Global.{Global}
use Rattle.l2_cnf.specs.declared.lit.Lit.{Lit}
use Rattle.l2_gates.specs.Gates as gates
use Rattle.l2_gates.specs.Gates.{literals_of}

abbrev pub words_of : List (Vec Lit Global) → List (List gates.Lit)
words_of = map (λ w. literals_of w.items)
