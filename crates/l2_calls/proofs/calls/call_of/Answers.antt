use Rattle.l2_types.proofs.Rows.{typed_tree-Call}
use Rattle.l2_calls.proofs.calls.call_of.Goals as goal

pub returns : goal.returns
returns c = typed_tree-Call c.args.number c.args.given
