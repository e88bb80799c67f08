use Rattle.std.proofs.Common.{◌≡◌, drop}
use Rattle.l2_digest.specs.Digests.{after_clause}
use Rattle.l2_digest.proofs.after_clause.Given as goal

abbrev pub invariant-loop-literal : goal.invariant-loop-literal
invariant-loop-literal l = after_clause l.digest (drop l.literal-index l.clause) ≡ after_clause l.start l.clause
