use Rattle.std.proofs.Common.{◌≡◌, ◌≤◌, []}
use Rattle.l2_tree.specs.Build.{pointers}
use Rattle.l2_build.specs.Parts.{parts_of, size_of}
use Rattle.l2_build.proofs.declarators.pointers_of.Given as goal

abbrev pub invariant-loop-star : goal.invariant-loop-star
invariant-loop-star l = record {
  so_far : pointers l.all.items (parts_of l.left) ≡ pointers [] (parts_of l.fn.parts);
  less : size_of l.left ≤ size_of l.fn.parts;
}

abbrev pub decreases-loop-star : goal.decreases-loop-star
decreases-loop-star l = size_of l.left
