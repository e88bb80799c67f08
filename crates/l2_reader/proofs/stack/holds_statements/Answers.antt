use Rattle.l2_reader.proofs.Counting.{holds_nothing}
use Rattle.l2_reader.proofs.stack.holds_statements.Goals as goal

pub returns-in_default-state : goal.returns-in_default-state
returns-in_default-state c = holds_nothing c.args.sort c.args.state c.in_default.not-Item c.in_default-state.not-FunctionBlock
