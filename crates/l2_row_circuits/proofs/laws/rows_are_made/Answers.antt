use Rattle.l2_row_circuits.proofs.Making as making
use Rattle.l2_row_circuits.proofs.laws.rows_are_made.Goals as goal

pub returns : goal.returns
returns c = making.rows_are_made
