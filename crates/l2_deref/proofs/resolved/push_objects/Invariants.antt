use Rattle.std.proofs.Common.{◌≡◌, ◌++◌, drop}
use Rattle.l2_code.specs.Trees.{code_of}
use Rattle.l2_code.specs.Modes.{types_of}
use Rattle.l2_deref.specs.Candidates.{cells_of}
use Rattle.l2_deref.proofs.resolved.push_objects.Given as goal

abbrev pub invariant-loop-member : goal.invariant-loop-member
invariant-loop-member l =
    l.list.items ++ cells_of (types_of (code_of l.code)).objects l.ty (drop l.member-index l.members) ≡ l.initial.list.items ++ cells_of (types_of (code_of l.code)).objects l.ty l.members
