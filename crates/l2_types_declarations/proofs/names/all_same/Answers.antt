use Rattle.std.proofs.Common.{◌≤◌, length, drop, sym, ◌∙◌, arith}
use Rattle.l2_types_declarations.proofs.Same.{none_left}
use Rattle.l2_types_declarations.proofs.names.all_same.Goals as goal

pub returns-then-i-us : goal.returns-then-i-us
returns-then-i-us c =
    let h : length c.args.us.now ≤ c.loop-t.t-index = omega arith in
    sym (none_left (drop c.loop-t.t-index c.args.ts.now) c.args.us.now c.loop-t.t-index h) ∙ c.loop-t.invariant.so_far
