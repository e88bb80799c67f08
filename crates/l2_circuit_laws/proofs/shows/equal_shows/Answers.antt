use Rattle.l2_circuit_laws.proofs.Signed as signed
use Rattle.l2_circuit_laws.proofs.shows.equal_shows.Goals as goal

pub returns : goal.returns
returns c = signed.equal_shows
