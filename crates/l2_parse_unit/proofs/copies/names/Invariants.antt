use Rattle.std.proofs.Common.{◌≡◌, ◌++◌, map, drop}
use Rattle.l2_parse_unit.proofs.copies.names.Given as goal

abbrev pub invariant-loop-one : goal.invariant-loop-one
invariant-loop-one l = map (λ n. n.bytes) l.all.items ++ map (λ n. n.bytes) (drop l.one-index l.of) ≡ map (λ n. n.bytes) l.initial.of
