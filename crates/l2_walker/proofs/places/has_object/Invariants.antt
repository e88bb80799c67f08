use Rattle.std.proofs.Common.{◌≡◌, drop}
use Rattle.l2_runs.specs.declared.member.Member.TheVariants.{Object}
use Rattle.l2_runs.specs.Members.{has}
use Rattle.l2_walker.proofs.places.has_object.Given as goal

abbrev pub invariant-loop-member : goal.invariant-loop-member
invariant-loop-member l = has (drop l.member-index l.members) (Object l.object) ≡ has l.members (Object l.object)
