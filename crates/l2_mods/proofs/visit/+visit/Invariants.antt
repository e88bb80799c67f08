use Rattle.std.proofs.Common.{◌≡◌, ◌++◌, drop}
use Rattle.l2_program.specs.Checked.{checked_trees}
use Rattle.l2_meaning.specs.Changes.{all_changes_in, all_loop_sets}
use Rattle.l2_mods.specs.Walks.{cells_in, statics_in}
use Rattle.l2_mods.proofs.Keeping.{Keeps}
use Rattle.l2_mods.proofs.visit.+visit.Given as goal

abbrev pub invariant-block-loop-s : goal.invariant-block-loop-s
invariant-block-loop-s l = record {
  keeps : Keeps l.initial.walk.scope l.walk.scope;
  changed : l.walk.changed ++ all_changes_in (checked_trees (drop l.s-index l.all)) ≡ l.initial.walk.changed ++ all_changes_in (checked_trees l.initial.all);
  sets : l.walk.sets ++ all_loop_sets (cells_in l.objects) (statics_in l.objects) l.walk.scope (checked_trees (drop l.s-index l.all))
      ≡ l.initial.walk.sets ++ all_loop_sets (cells_in l.objects) (statics_in l.objects) l.initial.walk.scope (checked_trees l.initial.all);
}
