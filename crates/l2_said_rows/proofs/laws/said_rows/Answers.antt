use Rattle.l2_gates.proofs.Values.{gates_give}
use Rattle.l2_blast_laws.proofs.Given.{circuits}
use Rattle.l2_said_rows.proofs.Said.{said_rows as proved}
use Rattle.l2_said_rows.proofs.laws.said_rows.Goals as goal

pub returns : goal.returns
returns c = proved gates_give circuits
