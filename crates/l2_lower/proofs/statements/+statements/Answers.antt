use Rattle.std.proofs.Common.{subst, sym, ap, ◌∙◌, arith}
use Rattle.l2_program.specs.Checked.{typed_tree, checked_tree, checked_trees}
use Rattle.l2_program.specs.Checked as tree
use Rattle.l2_program.proofs.Trees.{checked_tree-Block}
use Rattle.l2_program.specs.Programs.{program_tree}
use Rattle.l2_meaning.specs.Execution.{cells_of}
use Rattle.l2_meaning.specs.Lawful.{main_result}
use Rattle.l2_meaning.specs.Meaning.{declared}
use Rattle.l2_meaning.specs.Scopes.{behind}
use Rattle.l2_lower.specs.Statements.{deads, both_sides, statement, statements}
use Rattle.l2_lower.specs.Output.{output, Emits, Anything}
use Rattle.l2_lower.proofs.Outputs.{too_much, emits_then, block_pushed, block_fails}
use Rattle.l2_lower.proofs.Weights.{size_at, typed_at}
use Rattle.l2_lower.proofs.Lists.{items_step, items_end, items_fail}
use Rattle.l2_lower.proofs.statements.+statements.Goals as goal

pub items-statement-requires : goal.items-statement-requires
items-statement-requires t c =
    let w = size_at c.args.all.now c.loop-s.s-index c.s-item.result c.loop-s-test.true c.s-item.is in
    (omega arith, (c.requires.few, typed_at (cells_of (program_tree c.args.p.now)) main_result c.args.all.now c.loop-s.s-index c.s-item.result c.loop-s-test.true c.s-item.is c.requires.typed))

pub items-returns-in_err-statement-clause-emits : goal.items-returns-in_err-statement-clause-emits
items-returns-in_err-statement-clause-emits t c =
    items_fail _ (cells_of (program_tree c.args.p.now)) (output c.args.out.now.items c.args.at.now) (statements (cells_of (program_tree c.args.p.now)) c.args.scope.now.items c.args.at.now.next (checked_trees c.args.all.now)) (output c.loop-s.out.items c.loop-s.at) (output c.statement.new.out.items c.statement.new.at) c.loop-s.scope.items c.args.all.now c.loop-s.s-index c.s-item.result
    c.in_err-statement.field-0.0 c.from_residual.result c.loop-s-test.true c.s-item.is c.from_residual.ensures.0 c.from_residual.ensures.1 c.loop-s.invariant.0 c.in_err-statement.ensures.emits

pub items-loop-s-preserved : goal.items-loop-s-preserved
items-loop-s-preserved t c =
    items_step (cells_of (program_tree c.args.p.now)) (output c.args.out.now.items c.args.at.now) (statements (cells_of (program_tree c.args.p.now)) c.args.scope.now.items c.args.at.now.next (checked_trees c.args.all.now)) (output c.loop-s.out.items c.loop-s.at) (output c.statement.new.out.items c.statement.new.at) c.loop-s.scope.items c.go_behind.new.scope.items _ c.args.all.now c.loop-s.s-index c.s-item.result c.loop-s-test.true c.s-item.is
    c.in_ok-statement.ensures.emits.1 (c.in_ok-go_behind.ensures.ok ∙ ap (λ z. behind z (checked_tree c.s-item.result)) c.in_ok-statement.ensures.scope) c.loop-s.invariant

pub items-returns-clause-emits : goal.items-returns-clause-emits
items-returns-clause-emits t c =
    (tt, items_end (cells_of (program_tree c.args.p.now)) (output c.args.out.now.items c.args.at.now) (statements (cells_of (program_tree c.args.p.now)) c.args.scope.now.items c.args.at.now.next (checked_trees c.args.all.now)) (output c.loop-s.out.items c.loop-s.at) c.loop-s.scope.items c.args.all.now c.loop-s.s-index c.loop-s-test.false c.loop-s.invariant.0)

pub block-returns-in_err-items-clause-emits : goal.block-returns-in_err-items-clause-emits
block-returns-in_err-items-clause-emits t c =
    let s = statements (cells_of (program_tree c.args.p.now)) c.args.scope.now.items c.args.at.now.next (checked_trees c.args.all.now) in
    too_much _ s.nodes (deads (declared (checked_trees c.args.all.now))) _ (output c.args.out.now.items c.args.at.now) (output c.items.new.out.items c.items.new.at) c.in_err-items.field-0.0 c.from_residual.result c.from_residual.ensures.0 c.from_residual.ensures.1 c.in_err-items.ensures.emits

pub block-returns-clause-emits : goal.block-returns-clause-emits
block-returns-clause-emits t c =
    let s = statements (cells_of (program_tree c.args.p.now)) c.args.scope.now.items c.args.at.now.next (checked_trees c.args.all.now) in
    let old = output c.args.out.now.items c.args.at.now in
    let mid = output c.items.new.out.items c.items.new.at in
    let new = output c.bury_declared.new.out.items c.bury_declared.new.at in
    let ys = deads (declared (checked_trees c.args.all.now)) in
    emits_then _ old mid new s.nodes ys s.next s.next c.bury_declared.result c.in_ok-items.ensures.emits.1
    (subst (λ k. Emits ys k Anything mid new c.bury_declared.result) (ap (λ o. o.next) c.in_ok-items.ensures.emits.1) c.bury_declared.ensures)

pub statement-returns-in-Block-clause-emits : goal.statement-returns-in-Block-clause-emits
statement-returns-in-Block-clause-emits t c =
    let cells = cells_of (program_tree c.args.p.now) in
    let old = output c.args.out.now.items c.args.at.now in
    let new = output c.block.new.out.items c.block.new.at in
    let so = λ (x : tree.CheckedTree). Emits (statement cells c.args.scope.now.items c.args.at.now.next x).nodes (statement cells c.args.scope.now.items c.args.at.now.next x).next Anything old new c.block.result in
    subst (λ x. so (checked_tree x)) (sym c.in-Block.is) (subst so (sym (checked_tree-Block c.in-Block.all)) (subst (λ xs. so (tree.Block (checked_trees xs))) c.deref.ensures.value c.block.ensures.emits))

pub two_sides-returns-in_err-both_sides-clause-emits : goal.two_sides-returns-in_err-both_sides-clause-emits
two_sides-returns-in_err-both_sides-clause-emits t c =
    let x = both_sides (cells_of (program_tree c.args.p.now)) c.args.scope.now.items c.args.at.now.next (typed_tree c.args.e.now) (checked_tree c.args.s.now) (checked_tree c.args.t.now) in
    block_fails _ x c.args.out.now.items c.args.at.now (output c.args.out.now.items c.both_sides.new.at) c.in_err-both_sides.field-0.0 c.from_residual.result c.from_residual.ensures.0 c.from_residual.ensures.1 c.in_err-both_sides.ensures.emits

pub two_sides-returns-clause-emits : goal.two_sides-returns-clause-emits
two_sides-returns-clause-emits t c =
    let x = both_sides (cells_of (program_tree c.args.p.now)) c.args.scope.now.items c.args.at.now.next (typed_tree c.args.e.now) (checked_tree c.args.s.now) (checked_tree c.args.t.now) in
    block_pushed x c.args.out.now.items c.new-both.result.items c.args.at.now c.both_sides.new.out.items c.push_block.new.out.items c.both_sides.new.at c.push_block.result c.new-both.ensures.items c.in_ok-both_sides.ensures.emits.1 c.push_block.ensures.ok c.push_block.ensures.err
