use Rattle.l2_circuit_laws.proofs.Signed as signed
use Rattle.l2_circuit_laws.proofs.shows.less_shows.Goals as goal

pub returns : goal.returns
returns c = signed.less_shows
