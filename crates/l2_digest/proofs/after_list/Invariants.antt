use Rattle.std.proofs.Common.{◌≡◌, drop}
use Rattle.l2_digest.specs.Digests.{after_list}
use Rattle.l2_digest.proofs.after_list.Given as goal

abbrev pub invariant-loop-i : goal.invariant-loop-i
invariant-loop-i l = after_list l.digest (drop l.i l.list) ≡ after_list l.start l.list
