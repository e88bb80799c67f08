use Rattle.std.proofs.Common.{◌≡◌, drop}
use Rattle.l2_runs.specs.Members.{has}
use Rattle.l2_blast.proofs.member_lists.has.Given as goal

abbrev pub invariant-loop-m : goal.invariant-loop-m
invariant-loop-m l = has l.set l.member ≡ has (drop l.m-index l.set) l.member
