use Rattle.std.proofs.Common.{◌≡◌, ◌+◌, ◌*◌, ◌≤◌, ◌<◌, None}
use Rattle.l2_tree.specs.Build.{branch, behind_branch, items}
use Rattle.l2_tree.specs.Trees.{no_stmts}
use Rattle.l2_tree.specs.Units.{stmts_onto, branches_tree}
use Rattle.l2_build.specs.Parts.{parts_of, size_of}
use Rattle.l2_build_unit.proofs.+build.Given as goal

abbrev pub decreases-branches::test_and_body : goal.decreases-branches::test_and_body
decreases-branches::test_and_body l = 16 * size_of l.parts.now

abbrev pub decreases-branches::choice : goal.decreases-branches::choice
decreases-branches::choice l = 16 * size_of l.parts.now + 2

abbrev pub decreases-branches::while_loop : goal.decreases-branches::while_loop
decreases-branches::while_loop l = 16 * size_of l.parts.now + 1

abbrev pub decreases-branches::switch : goal.decreases-branches::switch
decreases-branches::switch l = 16 * size_of l.parts.now + 1

abbrev pub decreases-loops::do_loop : goal.decreases-loops::do_loop
decreases-loops::do_loop l = 16 * size_of l.parts.now

abbrev pub decreases-loops::for_loop : goal.decreases-loops::for_loop
decreases-loops::for_loop l = 16 * size_of l.parts.now

abbrev pub decreases-loops::labelled : goal.decreases-loops::labelled
decreases-loops::labelled l = 16 * size_of l.parts.now

abbrev pub decreases-loops::case_of : goal.decreases-loops::case_of
decreases-loops::case_of l = 16 * size_of l.parts.now

abbrev pub decreases-statements::items : goal.decreases-statements::items
decreases-statements::items l = 16 * size_of l.parts.now

abbrev pub decreases-statements::block_of : goal.decreases-statements::block_of
decreases-statements::block_of l = 16 * size_of l.parts.now + 1

abbrev pub decreases-statements::default_of : goal.decreases-statements::default_of
decreases-statements::default_of l = 16 * size_of l.parts.now + 1

abbrev pub decreases-statements::led : goal.decreases-statements::led
decreases-statements::led l = 16 * size_of l.parts.now + 3

abbrev pub decreases-statements::stmt_of : goal.decreases-statements::stmt_of
decreases-statements::stmt_of l = 16 * size_of l.parts.now + 4

abbrev pub invariant-branches::choice-loop-others : goal.invariant-branches::choice-loop-others
invariant-branches::choice-loop-others l = record {
  so_far : behind_branch (branches_tree l.first l.others.items) (parts_of l.left) ≡ branch None l.fn.place (parts_of l.fn.parts);
  less : size_of l.left < size_of l.fn.parts;
}

abbrev pub decreases-branches::choice-loop-others : goal.decreases-branches::choice-loop-others
decreases-branches::choice-loop-others l = size_of l.left

abbrev pub invariant-statements::items-loop-inner : goal.invariant-statements::items-loop-inner
invariant-statements::items-loop-inner l = record {
  so_far : items (stmts_onto no_stmts l.all.items) (parts_of l.left) ≡ items no_stmts (parts_of l.fn.parts);
  less : size_of l.left ≤ size_of l.fn.parts;
}

abbrev pub decreases-statements::items-loop-inner : goal.decreases-statements::items-loop-inner
decreases-statements::items-loop-inner l = size_of l.left

abbrev pub decreases-branches::behind_test : goal.decreases-branches::behind_test
decreases-branches::behind_test l = 16 * (size_of l.inner.now + size_of l.parts.now) + 1

abbrev pub decreases-branches::one_branch : goal.decreases-branches::one_branch
decreases-branches::one_branch l = 16 * size_of l.parts.now + 1

abbrev pub decreases-branches::behind_else : goal.decreases-branches::behind_else
decreases-branches::behind_else l = 16 * size_of l.parts.now

abbrev pub decreases-branches::next_branch : goal.decreases-branches::next_branch
decreases-branches::next_branch l = 16 * size_of l.parts.now

abbrev pub decreases-loops::for_body : goal.decreases-loops::for_body
decreases-loops::for_body l = 16 * size_of l.parts.now

abbrev pub decreases-loops::labelled_by : goal.decreases-loops::labelled_by
decreases-loops::labelled_by l = 16 * (1 + size_of l.inner.now + size_of l.parts.now)
