use Rattle.std.proofs.Common.{refl}
use Rattle.l2_goal_laws.proofs.Filling.{fill_made, fill_means}
use Rattle.l2_goal_laws.proofs.laws.fills_mean.Goals as goal

pub returns-clause-made : goal.returns-clause-made
returns-clause-made c = fill_made c.constants_are_below.ensures c.rows_are_made.ensures

pub returns-clause-mean : goal.returns-clause-mean
returns-clause-mean c = λ types vars q ranks zero rows forms v one.
    fill_means c.constants_show.ensures v one c.rows_are.ensures c.ranks_are.ensures vars q ranks zero rows forms (record { types = types; row = _; lower = _ }) refl refl
