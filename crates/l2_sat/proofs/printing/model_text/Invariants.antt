use Rattle.std.proofs.Common.{◌≡◌, ◌++◌, codes}
use Rattle.l2_cnf.specs.Assignment.{completed}
use Rattle.l2_sat.specs.Texts.{literals_text}
use Rattle.l2_sat.proofs.printing.model_text.Given as goal

-- the literals so far are written
abbrev pub invariant-loop-i : goal.invariant-loop-i
invariant-loop-i l = l.bytes.items ≡ codes "s SATISFIABLE\nv" ++ literals_text (completed l.values) l.i
