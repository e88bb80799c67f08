use Rattle.std.proofs.Common.{◌≡◌, ◌++◌, drop}
use Rattle.l2_program.specs.Checked.{checked_trees}
use Rattle.l2_program.specs.Names.{all_names_in}
use Rattle.l2_small_check.proofs.named.+names.Given as goal

abbrev pub invariant-all_names_in-loop-s : goal.invariant-all_names_in-loop-s
invariant-all_names_in-loop-s l =
    l.names.items ++ all_names_in (checked_trees (drop l.s-index l.all)) ≡ l.initial.names.items ++ all_names_in (checked_trees l.initial.all)
