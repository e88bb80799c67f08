use Rattle.l2_row_circuits.proofs.Forms as forms
use Rattle.l2_row_circuits.proofs.laws.forms_show.Goals as goal

pub returns : goal.returns
returns c = forms.forms_show
