use Rattle.l2_tree_names.proofs.Rounds.{first_at}
use Rattle.l2_tree_names.proofs.declarators.first_suffix.Goals as goal

pub returns-else-is_empty : goal.returns-else-is_empty
returns-else-is_empty c = first_at c.args.suffixes.now c.index-suffixes-0.result c.is_empty.result c.if-is_empty.false c.is_empty.ensures c.index-suffixes-0.is
