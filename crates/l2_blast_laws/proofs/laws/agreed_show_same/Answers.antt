use Rattle.l2_blast_laws.proofs.Opening.{agreed_show_same as proved}
use Rattle.l2_blast_laws.proofs.laws.agreed_show_same.Goals as goal

pub returns : goal.returns
returns c = proved
