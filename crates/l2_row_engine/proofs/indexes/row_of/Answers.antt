use Rattle.l2_row_engine.proofs.Standing.{row_is}
use Rattle.l2_row_engine.proofs.indexes.row_of.Goals as goal

pub returns-in-Rows : goal.returns-in-Rows
returns-in-Rows c = row_is c.args.at.now c.args.i c.number.result _ c.in-Rows.is c.requires c.number.ensures
