use Rattle.l2_blast_laws.proofs.Given.{circuits}
use Rattle.l2_blast_laws.proofs.Opening.{open_is_made, open_rows_have_models as models, said_rows_hold as rows}
use Rattle.l2_blast_laws.proofs.laws.open_rows_have_models.Goals as goal

pub returns-clause-made : goal.returns-clause-made
returns-clause-made c = open_is_made

pub returns-clause-models : goal.returns-clause-models
returns-clause-models c = models circuits

pub returns-clause-rows : goal.returns-clause-rows
returns-clause-rows c = rows circuits
