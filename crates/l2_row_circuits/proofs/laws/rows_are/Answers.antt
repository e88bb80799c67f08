use Rattle.l2_row_circuits.proofs.Forms as forms
use Rattle.l2_row_circuits.proofs.laws.rows_are.Goals as goal

pub returns : goal.returns
returns c = forms.rows_are
