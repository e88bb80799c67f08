use Rattle.std.proofs.Common.{◌≡◌, map, []}
use Rattle.l2_tree.specs.Build.{externals}
use Rattle.l2_tree.specs.Units.{external_tree}
use Rattle.l2_build.specs.Parts.{parts_of, size_of}
use Rattle.l2_build_unit.proofs.units.unit_of.Given as goal

abbrev pub invariant-loop-inner : goal.invariant-loop-inner
invariant-loop-inner l = externals (map external_tree l.all.items) (parts_of l.left) ≡ externals [] (parts_of l.fn.parts)

abbrev pub decreases-loop-inner : goal.decreases-loop-inner
decreases-loop-inner l = size_of l.left
