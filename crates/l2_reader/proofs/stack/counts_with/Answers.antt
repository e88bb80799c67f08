use Rattle.std.proofs.Common.{◌≡◌, ◌≤◌, arith}
use Rattle.l2_grammar.specs.Limits.{size, holds_statements}
use Rattle.l2_reader.specs.Parts.{tree_of}
use Rattle.l2_reader.proofs.Rooms.{holds_room, statements_room, expression_room}
use Rattle.l2_reader.proofs.stack.counts_with.Goals as goal

pub overflow_add-result : goal.overflow_add-result
overflow_add-result c =
    let h : holds_statements c.args.run.now.sort c.args.run.now.state ≤ size (tree_of c.args.run.now) = holds_room c.args.run.now c.requires.sound.0 in
    let s = statements_room c.args.stack.now c.requires.sound.1 in
    omega arith

pub expression_on-requires : goal.expression_on-requires
expression_on-requires c =
    let z : size (tree_of c.args.run.now) ≡ c.args.run.now.size = c.requires.sound.0.sized in
    let e = expression_room c.args.stack.now in
    omega arith
