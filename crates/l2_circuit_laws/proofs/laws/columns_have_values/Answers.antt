use Rattle.l2_circuit_laws.proofs.Columns as columns
use Rattle.l2_circuit_laws.proofs.laws.columns_have_values.Goals as goal

pub returns : goal.returns
returns c = columns.columns_have_values
