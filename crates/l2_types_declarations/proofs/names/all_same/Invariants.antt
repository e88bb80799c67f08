use Rattle.std.proofs.Common.{◌≡◌, drop}
use Rattle.l2_types_declarations.specs.Names.{all_same}
use Rattle.l2_types_declarations.proofs.names.all_same.Given as goal

abbrev pub invariant-loop-t : goal.invariant-loop-t
invariant-loop-t l = record {
  at : l.i ≡ l.t-index;
  so_far : all_same (drop l.t-index l.ts) (drop l.t-index l.us) ≡ all_same l.ts l.us;
}
