use Rattle.l2_row_circuits.proofs.Forms as forms
use Rattle.l2_row_circuits.proofs.laws.ranks_are.Goals as goal

pub returns : goal.returns
returns c = forms.ranks_are
