use Rattle.std.proofs.Common.{◌≡◌, drop}
use Rattle.l2_types_declarations.specs.Names.{agrees}
use Rattle.l2_types_declarations.proofs.names.agrees.Given as goal

abbrev pub invariant-loop-l : goal.invariant-loop-l
invariant-loop-l l = agrees (drop l.l-index l.linked) l.name l.t l.is_const ≡ agrees l.linked l.name l.t l.is_const
