use Rattle.std.proofs.Common.{◌≡◌, drop}
use Rattle.l2_lex.specs.States.{declare_all}
use Rattle.l2_lex.proofs.lexing.declare_all.Given as goal

abbrev pub invariant-loop-number : goal.invariant-loop-number
invariant-loop-number l =
    (declare_all (drop l.number-index l.declared) l.known.roles.items ≡ declare_all l.declared l.fn.known.roles.items) × (l.known.names ≡ l.fn.known.names)
