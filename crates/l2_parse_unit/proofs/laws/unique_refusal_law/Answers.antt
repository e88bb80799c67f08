use Rattle.l2_parse_unit.proofs.OneRefusal.{unique_refusal}
use Rattle.l2_parse_unit.proofs.laws.unique_refusal_law.Goals as goal

pub returns : goal.returns
returns c = unique_refusal
