use Rattle.std.proofs.Common.{◌+◌, take, refl}
use Rattle.l2_dimacs.proofs.Pieces.{first_of_lines, last_tokens, next_tokens, no_bytes}
use Rattle.l2_dimacs.proofs.cursor.Tokens.next_line.Goals as goal

pub returns-in-Some-clause-left : goal.returns-in-Some-clause-left
returns-in-Some-clause-left c =
    let text = c.args.self.rest.now in
    let cut = c.in-Some.cut in
    next_tokens c.args.self.line (c.args.self.line + 1) text cut.line.now c.unskipped.result.now cut.rest.now refl
    (first_of_lines text cut.line.now cut.rest.now c.in-Some.ensures.0 c.in-Some.ensures.1) c.unskipped.ensures

pub returns-clause-left : goal.returns-clause-left
returns-clause-left c =
    let text = c.args.self.rest.now in
    last_tokens c.args.self.line (c.args.self.line + 1) text c.unskipped-2.result.now (take 0 text) (no_bytes text) refl c.in_default.ensures c.unskipped-2.ensures
