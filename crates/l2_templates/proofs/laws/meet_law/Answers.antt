use Rattle.l2_templates.proofs.Strength.{meet_first, meet_greatest, meet_second}
use Rattle.l2_templates.proofs.laws.meet_law.Goals as goal

pub returns-clause-first : goal.returns-clause-first
returns-clause-first c = meet_first

pub returns-clause-second : goal.returns-clause-second
returns-clause-second c = meet_second

pub returns-clause-greatest : goal.returns-clause-greatest
returns-clause-greatest c = meet_greatest
